-- What a writer does to the area that it holds.
-- Assumes nothing.
use Rattle.std.specs.Prelude.{◌≡◌, refl, List, [], ◌++◌, ℕ, ◌+◌, ◌^◌, ◌<◌, length}
use Rattle.std.specs.Borrow.{MutBor}
use Rattle.std.proofs.Common.{◌∙◌}
use Rattle.byte_writer.specs.declared.Writer.{Writer}
use Rattle.byte_writer.specs.Writing.{Put}
use Rattle.byte_writer.specs.Texts.{put-nothing, put-append, Left, left_done, left-room, left-next}

-- A writer of the whole of an area, at its front.
pub record Starts (lent : MutBor (List ℕ)) (w : Writer) : Type 0 where
  pub same : w.out.ghost_name ≡ lent.ghost_name
  pub area : w.out.now ≡ lent.now
  pub place : w.at ≡ 0

-- the place after these bytes is a number of the machine
abbrev pub HasRoom : Writer → List ℕ → Type 0
HasRoom w bytes = w.at + length bytes < 2 ^ 64

-- The bytes are written from the writer's place on, and its place is then the one after them. It keeps its area.
pub record Writes (before : Writer) (bytes : List ℕ) (after : Writer) : Type 0 where
  pub same : after.out.ghost_name ≡ before.out.ghost_name
  pub put : Put before.out.now before.at bytes after.out.now after.at

-- ---- no bytes; some, then others
pub writes-nothing : (w : Writer) → Writes w [] w
writes-nothing w = record { same = refl; put = put-nothing w.out.now w.at }

pub writes-append : {a b d : Writer} {xs ys : List ℕ} → Writes a xs b → Writes b ys d → Writes a (xs ++ ys) d
writes-append p q = record { same = q.same ∙ p.same; put = put-append p.put q.put }

-- ---- bytes written part by part: those that are left to write from here on end where all of them end
pub record Remains (start : Writer) (whole : List ℕ) (w : Writer) (rest : List ℕ) : Type 0 where
  pub same : w.out.ghost_name ≡ start.out.ghost_name
  pub left : Left start.out.now start.at whole w.out.now w.at rest

pub remains-whole : (w : Writer) (whole : List ℕ) → Remains w whole w whole
remains-whole w whole = record { same = refl; left = record { area = refl; place = refl } }

module _ {start w : Writer} {whole : List ℕ} where
  pub remains-nothing : Remains start whole w [] → Writes start whole w
  remains-nothing h = record { same = h.same; put = left_done h.left }

  module _ {rest : List ℕ} (x later : List ℕ) (h : Remains start whole w rest) (split : rest ≡ x ++ later) where
    -- the next part has room
    pub remains-room : HasRoom start whole → HasRoom w x
    remains-room room = left-room x later h.left split (2 ^ 64) room

    pub remains-next : {v : Writer} → Writes w x v → Remains start whole v later
    remains-next p = record { same = p.same ∙ h.same; left = left-next x later h.left split p.put }
