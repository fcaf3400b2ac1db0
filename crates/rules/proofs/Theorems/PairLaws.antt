-- What the word on a pair of states says of every job file, second state and areas; and what a refused pair leaves.
-- Assumes nothing.
use Rattle.std.specs.Prelude.{◌≡◌, refl, Bool, true, false, not, ◌&&◌, ◌||◌, ℕ, zero, suc, ◌+◌, ◌*◌, ◌/◌, eqb, get_or, take, Ok}
use Rattle.std.proofs.Math.Path.{sym, ap}
use Rattle.std.proofs.Common.{ap₂, ◌∙◌, arith}
use Rattle.std.proofs.Math.Bool.{true≢false}
use mathlib.Core.List.{List, [], ◌∷◌}
use Prim.{⊥}
use borrow.Author.Tests.{eqb-true, eq-eqb, le-leb}
use Rattle.std.proofs.Math.ListN.{length}
use Rattle.std.proofs.Math.Seq.{take_at}
use Rattle.location.specs.declared.LocationSet.{LocationSet}
use Rattle.location.specs.Sets.{member}
use Rattle.location.specs.SetLaws.{and_left, and_right}
use Rattle.rules.specs.declared.Stop.{Stop}
use Rattle.rules.specs.declared.Stop.TheVariants.{Finished, Spent, TraceFull, OutsideFull}
use Rattle.rules.specs.declared.Compared.{Compared}
use Rattle.rules.specs.declared.PairWord.{PairWord}
use Rattle.rules.specs.declared.PairWord.TheVariants as words
use Rattle.rules.specs.declared.Refusal.{Refusal}
use Rattle.rules.specs.declared.Refusal.TheVariants as refusals
use Rattle.rules.specs.declared.Counts.{Counts}
use Rattle.rules.specs.Rules.Outcomes.{paired}
use Rattle.rules.specs.Rules.Instructions.{window_costs, Observation}
use Rattle.rules.specs.Rules.Runs.{Job, Result, mispredicting_run, plain_run, is_finished}
use Rattle.rules.specs.Rules.Answers.{pair_refusal}
use Rattle.rules.specs.Rules.JobFile.{Parsed, accepted, rejected, parse, trailer, locations, words_at}
use Rattle.rules.specs.Rules.Costs.{costs_fit, with_costs}
use Rattle.rules.specs.Rules.Calls.{Areas, trace_words, room, table_size, working_words, written, counts, long_enough}
use Rattle.rules.specs.Rules.Pairs.{with_state, alike_from, same_words, same_trace, first_that_fits, pair_word, PairAreas, pair_after, pair_refused, second_state_fits, pair_fits, pair_accepted, pair_tabled, pair_parsed, fixed_pair_call, pair_call}
use Rattle.rules.specs.Rules.Demands.{AlikeOn, plain_trace_of, Unaltered, second_state, AlikePublic, SecondJob, RunAreas, SamePlain, OtherPlain, BothFinished, SameTraces, Means, PairMeaning}
use Rattle.rules.proofs.Theorems.JobLaws.{passed, job-init, job-public, init-locations, length-words_at, parse-other}
use Rattle.rules.proofs.Theorems.Costs.{tabled-accepted, tabled-refused, ones_tabled, plain_any_table}
use Rattle.rules.proofs.Theorems.CallLaws.{length-trace_words, plain-trace_runs, carried_out, left_alone}
use Rattle.rules.proofs.Theorems.Outcomes.{refused-done, same-done}

-- ---- words compared
pub same-words_equal : (a b : List ℕ) → same_words a b ≡ true → a ≡ b
unfolding same_words
same-words_equal [] [] e = refl
same-words_equal [] (y ∷ b) e = absurd (true≢false (sym e))
same-words_equal (x ∷ a) [] e = absurd (true≢false (sym e))
same-words_equal (x ∷ a) (y ∷ b) e =
    ap₂ {C = List ℕ} (λ (z : ℕ) (ws : List ℕ). z ∷ ws) (eqb-true x y (and_left (eqb x y) (same_words a b) e))
    (same-words_equal a b (and_right (eqb x y) (same_words a b) e))

pub same-words_self : (a : List ℕ) → same_words a a ≡ true
unfolding same_words
same-words_self [] = refl
same-words_self (x ∷ a) = rw (eq-eqb x x refl, same-words_self a)

-- two lists that are not the same word for word are not equal
other-words : (a b : List ℕ) → same_words a b ≡ false → a ≡ b → ⊥
other-words a b e q = true≢false (sym (same-words_self a) ∙ ap (same_words a) q ∙ e)

-- ---- states compared
alike_tail : (public : LocationSet) (l x y : ℕ) (xs ys : List ℕ)
    → (member public l ≡ true → x ≡ y)
    → alike_from public (suc l) xs ys ≡ true → alike_from public l (x ∷ xs) (y ∷ ys) ≡ true
unfolding alike_from
alike_tail public l x y xs ys h e = go (member public l) refl
  where
    go : (m : Bool) → member public l ≡ m → ((not (member public l) || eqb x y) && alike_from public (suc l) xs ys) ≡ true
    go true q = rw (q, eq-eqb x y (h q), e)
    go false q = rw (q, e)

-- states of one size that are alike at each public location are found alike
pub found_alike : (public : LocationSet) (l : ℕ) (xs ys : List ℕ) → length xs ≡ length ys
    → ((j : ℕ) → member public (l + j) ≡ true → get_or xs j 0 ≡ get_or ys j 0) → alike_from public l xs ys ≡ true
unfolding alike_from
found_alike public l [] ys s h = refl
found_alike public l (x ∷ xs) [] s h = refl
found_alike public l (x ∷ xs) (y ∷ ys) s h =
    let z : l + 0 ≡ l = omega arith in
    alike_tail public l x y xs ys (rw z at (h 0))
    (found_alike public (suc l) xs ys (omega arith) (λ j. let e : suc l + j ≡ l + suc j = omega arith in rw e (h (suc j))))

-- and the other way round
alike_at : (public : LocationSet) (l : ℕ) (xs ys : List ℕ) → length xs ≡ length ys → alike_from public l xs ys ≡ true
    → (j : ℕ) → member public (l + j) ≡ true → get_or xs j 0 ≡ get_or ys j 0
unfolding alike_from
alike_at public l [] [] s e j m = refl
alike_at public l [] (y ∷ ys) s e j m = absurd (omega arith)
alike_at public l (x ∷ xs) [] s e j m = absurd (omega arith)
alike_at public l (x ∷ xs) (y ∷ ys) s e zero m =
    let z : l + 0 ≡ l = omega arith in
    let q : (not (member public l) || eqb x y) ≡ true = and_left (not (member public l) || eqb x y) (alike_from public (suc l) xs ys) e in
    eqb-true x y (rw (rw z at m) at q)
alike_at public l (x ∷ xs) (y ∷ ys) s e (suc j) m =
    let f : suc l + j ≡ l + suc j = omega arith in
    alike_at public (suc l) xs ys (omega arith) (and_right (not (member public l) || eqb x y) (alike_from public (suc l) xs ys) e) j (rw f m)

-- ---- the tests of the word, in their order
abbrev pub Chosen : PairWord → Bool → Bool → Bool → Bool → Type 0
Chosen words.NotComparable c f p s = c ≡ false
Chosen words.Undecided c f p s = (c ≡ true) × (f ≡ false)
Chosen words.PlainDiffers c f p s = (c ≡ true) × (f ≡ true) × (p ≡ false)
Chosen words.LeakShown c f p s = (c ≡ true) × (f ≡ true) × (p ≡ true) × (s ≡ false)
Chosen words.Equal c f p s = (c ≡ true) × (f ≡ true) × (p ≡ true) × (s ≡ true)

pub chosen-fits : (c f p s : Bool) → Chosen (first_that_fits c f p s) c f p s
chosen-fits false f p s = refl
chosen-fits true false p s = (refl, refl)
chosen-fits true true false s = (refl, refl, refl)
chosen-fits true true true false = (refl, refl, refl, refl)
chosen-fits true true true true = (refl, refl, refl, refl)

-- ---- areas for a run of an accepted job: no shortage, and the pair's room for the trace
module _ {f : List ℕ} {a : PairAreas} {p : Areas} (h : RunAreas f a p) where
  pub long-enough : (job : Job) → length job.init ≡ locations (trailer f) → long_enough job p ≡ true
  unfolding long_enough
  long-enough job e =
      let w = h.work in
      let n = h.end in
      rw (le-leb working_words (length p.work) w, le-leb (length job.init + table_size) (length p.end) (omega arith))

  pub run_room : room p.trace ≡ room a.first
  unfolding room
  run_room = ap (λ (n : ℕ). n / 2) h.trace

-- ---- a pair that was compared
pub record Pairs (f second costs : List ℕ) (a : PairAreas) : Type 0 where
  pub read : Job
  pub parsed : parse f ≡ accepted read
  pub sized : second_state_fits read second ≡ true
  pub fits : costs_fit costs ≡ true
  pub enough : pair_fits a ≡ true

pub finished-stop : (x : Stop) → is_finished x ≡ true → x ≡ Finished
finished-stop Finished e = refl
finished-stop Spent e = absurd (true≢false (sym e))
finished-stop TraceFull e = absurd (true≢false (sym e))
finished-stop OutsideFull e = absurd (true≢false (sym e))

module _ {f second costs : List ℕ} {a : PairAreas} (r : Pairs f second costs a) where
  abbrev vs : List ℕ
  vs = words_at (length r.read.init) second 0

  abbrev k : ℕ
  k = room a.first

  -- the job with its table, the same with the second state, and the two runs
  abbrev pub pair_job : Job
  pair_job = with_costs r.read costs

  abbrev other : Job
  other = with_state pair_job vs

  abbrev run₁ : Result
  run₁ = mispredicting_run pair_job k

  abbrev run₂ : Result
  run₂ = mispredicting_run other k

  pub pair_runs : pair_call f second costs a ≡ pair_accepted pair_job vs a
  unfolding pair_call pair_parsed pair_tabled
  pair_runs = rw (tabled-accepted f costs r.read r.parsed r.fits, r.parsed, r.sized, r.enough, pair_parsed, pair_tabled)

  init-size : length r.read.init ≡ locations (trailer f)
  init-size = init-locations (passed f r.read r.parsed)

  second-words : vs ≡ second_state f second
  unfolding second_state
  second-words = ap (λ (n : ℕ). words_at n second 0) init-size

  -- ---- the states
  same_size : length r.read.init ≡ length vs
  same_size = sym (length-words_at (length r.read.init) second 0)

  is_alike : alike_from r.read.public 0 r.read.init vs ≡ true → AlikePublic f second
  is_alike e =
      let p = passed f r.read r.parsed in
      rw (← job-public p, ← job-init p, ← second-words)
      (record { same = λ l m. alike_at r.read.public 0 r.read.init vs same_size e l (let z : 0 + l ≡ l = omega arith in rw z m) })

  not_alike : alike_from r.read.public 0 r.read.init vs ≡ false → AlikePublic f second → ⊥
  not_alike e h =
      let p = passed f r.read r.parsed in
      let h' : AlikeOn r.read.public r.read.init vs = rw (second-words, job-public p, job-init p) h in
      true≢false
      (sym (found_alike r.read.public 0 r.read.init vs same_size (λ j m. h'.same j (let z : 0 + j ≡ j = omega arith in rw z at m))) ∙ e)

  -- ---- the stops
  both-finished : (is_finished run₁.stop && is_finished run₂.stop) ≡ true → BothFinished (counts run₁) (counts run₂)
  unfolding counts
  both-finished e =
      let x = is_finished run₁.stop in
      let y = is_finished run₂.stop in
      record { first = finished-stop run₁.stop (and_left x y e); second = finished-stop run₂.stop (and_right x y e) }

  not_finished : (is_finished run₁.stop && is_finished run₂.stop) ≡ false → BothFinished (counts run₁) (counts run₂) → ⊥
  unfolding counts
  not_finished e h = true≢false (sym (rw (h.first, h.second)) ∙ e)

  -- ---- the plain traces
  abbrev plain₁ : List ℕ
  plain₁ = trace_words (plain_run pair_job k).gathered.trace

  abbrev plain₂ : List ℕ
  plain₂ = trace_words (plain_run other k).gathered.trace

  -- a plain run of a file has no table, and is that of the job with any table
  plain_runs : (g : List ℕ) (job : Job) (p : Areas) → parse g ≡ accepted job → long_enough job p ≡ true → RunAreas f a p
      → plain_trace_of g p ≡ trace_words (plain_run (with_costs job costs) k).gathered.trace
  plain_runs g job p q e h =
      plain-trace_runs (record { job = job; parsed = q; enough = e })
      ∙ ap (λ (x : Result). trace_words x.gathered.trace) (ap (plain_run job) (run_room h) ∙ sym (plain_any_table job costs k))

  plain-first : (p : Areas) → RunAreas f a p → plain_trace_of f p ≡ plain₁
  plain-first p h = plain_runs f r.read p r.parsed (long-enough h r.read init-size) h

  plain_second : (g : List ℕ) (p : Areas) → SecondJob f second g → RunAreas f a p → plain_trace_of g p ≡ plain₂
  unfolding with_state
  plain_second g p s h =
      let j = with_state r.read vs in
      let q : parse g ≡ accepted j =
      parse-other r.parsed s.same ∙ ap (λ (ws : List ℕ). accepted (with_state r.read ws)) (s.state ∙ sym second-words) in
      plain_runs g j p q (long-enough h j (sym same_size ∙ init-size)) h

  pub same-plain : same_words plain₁ plain₂ ≡ true → SamePlain f second a
  same-plain e = record {
    same = λ g p p' s h h'. plain-first p h ∙ same-words_equal plain₁ plain₂ e ∙ sym (plain_second g p' s h');
  }

  other-plain : same_words plain₁ plain₂ ≡ false → OtherPlain f second a
  other-plain e = record {
    other = λ g p p' s h h' q. other-words plain₁ plain₂ e (sym (plain-first p h) ∙ q ∙ plain_second g p' s h');
  }

  -- ---- the full traces
  abbrev full₁ : List ℕ
  full₁ = trace_words run₁.gathered.trace

  abbrev full₂ : List ℕ
  full₂ = trace_words run₂.gathered.trace

  shown : (os : List Observation) (area : List ℕ) → take (2 * length os) (written (trace_words os) area) ≡ trace_words os
  unfolding written
  shown os area = take_at (trace_words os) _ (2 * length os) (length-trace_words os)

  same-traces : same_words full₁ full₂ ≡ true → SameTraces (counts run₁) (counts run₂) (pair_after run₁ run₂ a)
  unfolding counts pair_after
  same-traces e = record {
    same = shown run₁.gathered.trace a.first ∙ same-words_equal full₁ full₂ e ∙ sym (shown run₂.gathered.trace a.second);
  }

  other-traces : same_words full₁ full₂ ≡ false → SameTraces (counts run₁) (counts run₂) (pair_after run₁ run₂ a) → ⊥
  unfolding counts pair_after
  other-traces e h = other-words full₁ full₂ e (sym (shown run₁.gathered.trace a.first) ∙ h.same ∙ shown run₂.gathered.trace a.second)

  -- ---- the word
  abbrev PairMeans : PairWord → Type 0
  PairMeans w = Means w f second a (counts run₁) (counts run₂) (pair_after run₁ run₂ a)

  abbrev PairChosen : PairWord → Type 0
  PairChosen w =
      Chosen w (alike_from r.read.public 0 r.read.init vs) (is_finished run₁.stop && is_finished run₂.stop) (same_words plain₁ plain₂)
      (same_words full₁ full₂)

  meaning : (w : PairWord) → PairChosen w → PairMeans w
  meaning words.NotComparable c = not_alike c
  meaning words.Undecided c = (is_alike c.0, not_finished c.1)
  meaning words.PlainDiffers c = (is_alike c.0, both-finished c.1, other-plain c.2)
  meaning words.LeakShown c = (is_alike c.0, both-finished c.1, same-plain c.2, other-traces c.3)
  meaning words.Equal c = (is_alike c.0, both-finished c.1, same-plain c.2, same-traces c.3)

  word_means : PairMeans (pair_word pair_job vs k)
  unfolding pair_word same_trace
  word_means =
      meaning (pair_word pair_job vs k)
      (chosen-fits (alike_from r.read.public 0 r.read.init vs) (is_finished run₁.stop && is_finished run₂.stop) (same_words plain₁ plain₂)
      (same_words full₁ full₂))

-- ---- every call is refused, or compares
data PairView (f second costs : List ℕ) (a : PairAreas) : Type 0 where
  compared : Pairs f second costs a → PairView f second costs a
  refused : (n : Refusal) → pair_call f second costs a ≡ pair_refused n a → PairView f second costs a

pair-view : (f second costs : List ℕ) (a : PairAreas) → PairView f second costs a
unfolding pair_call pair_parsed pair_tabled
pair-view f second costs a = go (parse f) refl
  where
    -- 9, then 14, then 10
    tests : (job : Job) → parse f ≡ accepted job → (b t c : Bool) → second_state_fits job second ≡ b → costs_fit costs ≡ t → pair_fits a ≡ c
        → PairView f second costs a
    tests job q true true true s u e = compared (record { read = job; parsed = q; sized = s; fits = u; enough = e })
    tests job q true true false s u e = refused refusals.Areas (rw (tabled-accepted f costs job q u, q, s, e, pair_parsed, pair_tabled))
    tests job q true false c s u e = refused refusals.Costs (rw (tabled-refused f costs job q u, q, s, pair_parsed, pair_tabled))
    tests job q false t c s u e = refused refusals.SecondState (rw (q, s, pair_parsed))

    go : (P : Parsed) → parse f ≡ P → PairView f second costs a
    go (rejected n) q = refused n (rw (q, pair_parsed))
    go (accepted job) q = tests job q (second_state_fits job second) (costs_fit costs) (pair_fits a) refl refl refl

pub pair-meaning : (f second costs : List ℕ) (a : PairAreas) → PairMeaning f second a (pair_call f second costs a).answer (pair_call f second costs a).areas
pair-meaning f second costs a = record { compared = λ {word} {n} {n'} e. go word n n' e (pair-view f second costs a) }
  where
    go : (w : PairWord) (n n' : Counts) → (pair_call f second costs a).answer ≡ Ok (paired w n n') → PairView f second costs a
        → Means w f second a n n' (pair_call f second costs a).areas
    go w n n' e (refused m q) = unfold pair_refused in refused-done (rw q at e)
    go w n n' e (compared r) =
        unfold pair_accepted in
        let q : Ok (paired (pair_word (pair_job r) (vs r) (k r)) (counts (run₁ r)) (counts (run₂ r))) ≡ Ok (paired w n n') = rw (pair_runs r) at e in
        let s = same-done q in
        let q₀ : pair_word (pair_job r) (vs r) (k r) ≡ w = ap (λ (x : Compared). x.word) s in
        let q₁ : counts (run₁ r) ≡ n = ap (λ (x : Compared). x.first) s in
        let q₂ : counts (run₂ r) ≡ n' = ap (λ (x : Compared). x.second) s in
        rw (← q₀, ← q₁, ← q₂, pair_runs r) (word_means r)

-- a refusal leaves every area as it was
pub pair-unaltered : (f second costs : List ℕ) (a : PairAreas)
    → Unaltered pair_refusal (pair_call f second costs a).answer a (pair_call f second costs a).areas
pair-unaltered f second costs a = go (pair-view f second costs a)
  where
    go : PairView f second costs a → Unaltered pair_refusal (pair_call f second costs a).answer a (pair_call f second costs a).areas
    go (refused m q) = left_alone pair_refusal (pair_call f second costs a) a (unfold pair_refused in rw q)
    go (compared r) = carried_out pair_refusal (pair_call f second costs a) a (unfold pair_accepted in rw (pair_runs r))

-- "a table of eight ones gives every earlier answer"
pub ones_pair : (f second : List ℕ) (a : PairAreas) → pair_call f second window_costs a ≡ fixed_pair_call f second a
unfolding pair_call fixed_pair_call
ones_pair f second a = ap (λ (P : Parsed). pair_parsed (parse f) P second a) (ones_tabled f)
