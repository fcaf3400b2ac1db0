-- All lines of a text, from a place on: what the two loops over them keep, and what they leave at the end.
-- Assumes nothing.
use mathlib.Core.Path.{◌≡◌, refl, sym, ap, subst, ◌∙◌}
use mathlib.Core.Bool.{Bool, true, false, cond}
use mathlib.Core.List.{List, [], ◌∷◌, ◌++◌}
use Prim.Native.Nat.{ℕ, ◌+◌, ◌-◌, ◌*◌, ◌^◌, ◌<◌, ◌≤◌}
use native.Mathlib.Omega.{arith}
use Rattle.std.proofs.Common.{Some, None}
use borrow.Author.Tests.{le-leb, lt-leb, leb-true, leb-false, ne_eqb}
use lib.Dec.{leb}
use lib.ListN.{length, drop}
use Rattle.rules.specs.Rules.Limits.{max_instructions}
use Rattle.rules.specs.Rules.Parts.{parts, lines_of}
use Rattle.rules.specs.Rules.TextReading.{Line, blank, holds, unreadable, line_of}
use Rattle.byte_writer.specs.Texts.{Left, left_done, left-next}
use Rattle.lexer.specs.declared.Place.{Place}
use Rattle.lexer.specs.declared.LineAt.{LineAt}
use Rattle.lexer.specs.Places.{Passable, line_from, line_at}
use Rattle.lexer.specs.Lines.{next-within, line-parts, last_line, line_before}
use Rattle.text_reader.specs.declared.LineRead.{LineRead}
use Rattle.text_reader.specs.Faults.{held_line, held_lines, faulty, first_fault}
use Rattle.text_reader.specs.FaultLaws.{held-few}
use Rattle.text_reader.specs.Reading.{largest, line_bytes, lines_bytes, LineKept, line_if, CountTold, ScanTold}

-- ---- the lines that go on from an offset; none past the text's end
unfoldable pub lines_from : List ℕ → ℕ → List (List ℕ)
lines_from t at = cond (leb at (length t)) (lines_of (drop at t)) []

module _ (t : List ℕ) where
  within : {at : ℕ} → at ≤ length t → lines_from t at ≡ lines_of (drop at t)
  unfolding lines_from
  within {at} h = rw (le-leb at (length t) h)

  past : {at : ℕ} → length t < at → lines_from t at ≡ []
  unfolding lines_from
  past {at} h = rw (lt-leb at (length t) h)

  all_lines : lines_from t 0 ≡ lines_of t
  all_lines = within (omega arith)

  next-line : (p : Place) → p.at ≤ length t → lines_from t p.at ≡ line_from t p.at ∷ lines_from t (line_at t p).next.at
  next-line p h = within h ∙ go (leb (line_at t p).next.at (length t)) refl
    where
      go : (b : Bool) → leb (line_at t p).next.at (length t) ≡ b → lines_of (drop p.at t) ≡ line_from t p.at ∷ lines_from t (line_at t p).next.at
      go true e =
          let l = leb-true (line_at t p).next.at (length t) e in
          line_before t p l ∙ ap (λ (ls : List (List ℕ)). line_from t p.at ∷ ls) (sym (within l))
      go false e =
          let l = leb-false (line_at t p).next.at (length t) e in
          last_line t p l ∙ ap (λ (ls : List (List ℕ)). line_from t p.at ∷ ls) (sym (past l))

  -- ---- the place stands within the text or after its last line, and no more lines end before it than bytes
  pub record Standing (p : Place) : Type 0 where
    pub near : p.at ≤ length t + 1
    pub lines : p.line ≤ p.at

  start-stands : Standing (record { at = 0; line = 0 })
  start-stands = record { near = omega arith; lines = omega arith }

  next-stands : {p : Place} → p.at ≤ length t → Standing p → Standing (line_at t p).next
  next-stands {p} h s = record { near = next-within t p h; lines = omega (arith, s.lines) }

  pub passable : {p : Place} → Standing p → p.at ≤ length t → length t + 1 < 2 ^ 64 → Passable t p
  passable s h m = (h, omega (arith, s.lines))

  -- what the line at a place is
  abbrev line_there : Place → Line
  line_there p = line_of (parts (line_from t p.at))

  line-there : (p : Place) → line_of (parts (drop (line_at t p).start t)) ≡ line_there p
  line-there p = ap line_of (sym (line-parts t p))

  -- ---- counting
  pub record Counting (p : Place) (count : ℕ) : Type 0 where
    pub stands : Standing p
    pub few : count ≤ p.line
    pub lines : p.line + length (lines_from t p.at) ≡ length (lines_of t)
    pub held : count + held_lines (lines_from t p.at) ≡ held_lines (lines_of t)

  pub count_starts : Counting (record { at = 0; line = 0 }) 0
  count_starts = record {
    stands = start-stands;
    few = omega arith;
    lines = omega (arith, ap length all_lines);
    held = omega (arith, ap held_lines all_lines);
  }

  held-step : {l : List ℕ} {ls ms : List (List ℕ)} → ls ≡ l ∷ ms → held_lines ls ≡ held_line (line_of (parts l)) + held_lines ms
  unfolding held_lines
  held-step e = rw e

  held-most : (L : Line) → held_line L ≤ 1
  held-most blank = omega arith
  held-most (holds x) = omega arith
  held-most unreadable = omega arith

  -- the line at a place, as the code has it
  module _ (p : Place) {l : LineAt} (found : l ≡ line_at t p) (inside : p.at ≤ length t) where
    pub line-less : length t + 1 - l.next.at < length t + 1 - p.at
    line-less = let e = ap (λ (m : LineAt). m.next.at) found in omega arith

    next-there : Standing p → Standing l.next
    next-there s = rw found (next-stands inside s)

    line-next : lines_from t p.at ≡ line_from t p.at ∷ lines_from t l.next.at
    line-next = next-line p inside ∙ ap (λ (m : LineAt). line_from t p.at ∷ lines_from t m.next.at) (sym found)

    line-start : line_of (parts (drop l.start t)) ≡ line_there p
    line-start = ap (λ (m : LineAt). line_of (parts (drop m.start t))) found ∙ line-there p

    next-number : l.next.line ≡ p.line + 1
    next-number = ap (λ (m : LineAt). m.next.line) found

    -- one line more
    module _ {r : ℕ} (told : r ≡ held_line (line_of (parts (drop l.start t)))) where
      pub held_small : r ≤ 1
      held_small = omega (arith, held-most (line_of (parts (drop l.start t))))

      pub count_goes_on : {count : ℕ} → Counting p count → Counting l.next (count + r)
      count_goes_on {count} c =
          let size = ap length line-next in
          let step = held-step line-next in
          let same = told ∙ ap held_line line-start in
          let small = held_small in
          let number = next-number in
          record {
            stands = next-there c.stands;
            few = omega (arith, c.few);
            lines = omega (arith, c.lines);
            held = omega (arith, c.held);
          }

  pub count-ends : {p : Place} {held : ℕ} → length t < p.at → Counting p held → CountTold t (record { lines = p.line; held = held })
  unfolding held_lines
  count-ends {p} {held} h c =
      let none = past h in
      let size = ap length none in
      let rest = ap held_lines none in
      record { lines = omega (arith, c.lines); held = omega (arith, c.held) }

  -- ---- reading
  pub record Scanning (n : ℕ) (a : List ℕ) (p : Place) (count : ℕ) (b : List ℕ) (to : ℕ) : Type 0 where
    pub stands : Standing p
    pub few : count ≤ max_instructions
    pub size : to ≤ largest * count
    pub fault : first_fault n 0 1 (lines_of t) ≡ first_fault n count (p.line + 1) (lines_from t p.at)
    pub held : count + held_lines (lines_from t p.at) ≡ held_lines (lines_of t)
    pub left : Left a 0 (lines_bytes (lines_of t)) b to (lines_bytes (lines_from t p.at))

  module _ (n : ℕ) (a : List ℕ) where
    pub scan_starts : Scanning n a (record { at = 0; line = 0 }) 0 a 0
    scan_starts = record {
      stands = start-stands;
      few = omega arith;
      size = omega arith;
      fault = ap (first_fault n 0 1) (sym all_lines);
      held = omega (arith, ap held_lines all_lines);
      left = rw all_lines (record { area = refl; place = refl });
    }

    bytes-step : {l : List ℕ} {ls ms : List (List ℕ)} → ls ≡ l ∷ ms → lines_bytes ls ≡ line_bytes (line_of (parts l)) ++ lines_bytes ms
    unfolding lines_bytes
    bytes-step e = rw e

    fault-here : (i k : ℕ) {l : List ℕ} {ls ms : List (List ℕ)} → ls ≡ l ∷ ms → faulty n i (line_of (parts l)) ≡ true → first_fault n i k ls ≡ k
    unfolding first_fault
    fault-here i k e f = rw e (rw f)

    fault-later : (i k : ℕ) {l : List ℕ} {ls ms : List (List ℕ)} → ls ≡ l ∷ ms → faulty n i (line_of (parts l)) ≡ false
        → first_fault n i k ls ≡ first_fault n (i + held_line (line_of (parts l))) (k + 1) ms
    unfolding first_fault
    fault-later i k e f = rw e (rw f)

    -- one line more
    module _ (p : Place) {l : LineAt} (found : l ≡ line_at t p) (inside : p.at ≤ length t) {count to : ℕ} {b : List ℕ} (s : Scanning n a p count b to) where
      pub scan_goes_on : {d : List ℕ} {r : LineRead} → LineKept (line_of (parts (drop l.start t))) n count b to d r → Scanning n a l.next r.count d r.to
      scan_goes_on {d} {r} told =
          let next = line-next p found inside in
          let number = next-number p found inside in
          let k : LineKept (line_there p) n count b to d r =
          subst (λ (L : Line). LineKept L n count b to d r) (line-start p found inside) told in
          let step = held-step next in
          record {
            stands = next-there p found inside s.stands;
            few = omega (arith, k.count, held-few n count (line_there p) k.fault s.few);
            size = omega (arith, k.count, k.size, s.size);
            fault =
                s.fault ∙ fault-later count (p.line + 1) next k.fault
                ∙ ap (λ (i : ℕ). first_fault n i (p.line + 1 + 1) (lines_from t l.next.at)) (sym k.count)
                ∙ ap (λ (m : ℕ). first_fault n r.count (m + 1) (lines_from t l.next.at)) (sym number);
            held = omega (arith, k.count, s.held);
            left = left-next (line_bytes (line_there p)) (lines_bytes (lines_from t l.next.at)) s.left (bytes-step next) k.put;
          }

      -- a line's number is not 0
      line-some : {k : ℕ} → k ≡ p.line + 1 → Some k ≡ line_if k
      line-some {k} e = rw (ne_eqb k 0 (λ z. omega arith))

      pub scan_faulty : {c o : ℕ} {f : List ℕ} → faulty n count (line_of (parts (drop l.start t))) ≡ true
          → ScanTold t n a f (record { to = o; count = c; fault = Some l.next.line })
      scan_faulty bad =
          let number = next-number p found inside in
          let there : faulty n count (line_there p) ≡ true = sym (ap (λ (L : Line). faulty n count L) (line-start p found inside)) ∙ bad in
          record {
            fault = line-some number ∙ ap line_if (number ∙ sym (s.fault ∙ fault-here count (p.line + 1) (line-next p found inside) there));
            kept = λ z. (cc);
          }

    pub scan_ends : {p : Place} {count to : ℕ} {b : List ℕ} → length t < p.at → Scanning n a p count b to
        → ScanTold t n a b (record { to = to; count = count; fault = None })
    unfolding held_lines lines_bytes first_fault
    scan_ends {p} {count} {to} {b} h s =
        let none = past h in
        let rest = ap held_lines none in
        record {
          fault = ap line_if (sym (s.fault ∙ ap (first_fault n count (p.line + 1)) none));
          kept = λ _. record {
            put = left_done (rw none at s.left);
            count = omega (arith, s.held);
          };
        }
