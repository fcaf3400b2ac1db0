-- How the printed lines come from the rules' call: the number of instructions, the call's answer and trace, and the listing.
-- Assumes nothing.
use mathlib.Core.Path.{◌≡◌, refl, sym, ap, ◌∙◌}
use mathlib.Core.Bool.{true}
use mathlib.Core.List.{List}
use Prim.Native.Nat.{ℕ, ◌+◌, ◌*◌, ◌≤◌}
use native.Mathlib.Omega.{arith}
use borrow.Author.Tests.{le-leb}
use lib.ListN.{length, take}
use lib.Seq.{take-append_seam, length-sets}
use Rattle.location.specs.Sets.{limit}
use Rattle.rules.specs.declared.Trailer.{Trailer}
use Rattle.rules.specs.declared.Refusal.{Refusal}
use Rattle.rules.specs.declared.RunAnswer.{RunAnswer}
use Rattle.rules.specs.Rules.Plain.{end_place}
use Rattle.rules.specs.Rules.Runs.{Job, mispredicting_run}
use Rattle.rules.specs.Rules.JobFile.{Parsed, accepted, rejected, parse, trailer}
use Rattle.rules.specs.Rules.Calls.{Areas, Called, lent, room, table_size, working_words, long_enough, written, areas_after}
use Rattle.rules.specs.Rules.Calls.{run_report, run_refused, run_parsed, fixed_run_call}
use Rattle.rules.specs.Rules.Demands.{observation_count, Exact}
use Rattle.rules.specs.Rules.Listing.{printed_room, listing_of, listing}
use Rattle.rules.proofs.Theorems.JobLaws.{passed, job-end, init-most}
use Rattle.std.specs.Prelude.{Result, Ok, Err}
use Rattle.job.specs.declared.JobRead.{JobRead}
use Rattle.job.specs.Answers.{job_read_of, read-accepted, read-refused}
use Rattle.byte_writer.specs.Writing.{Put}
use Rattle.byte_writer.specs.Areas.{put_next, put-fits}
use Rattle.listing.specs.Lines.{observations_in, printed}
use Rattle.listing.specs.Traces.{printed-report, printed-refused}
use Rattle.listing.specs.Lengths.{observations-length, answer-bound}
use Rattle.printer.specs.Printing.{instruction_count, trace_after, Prints, Listed}

-- ---- the number of instructions
module _ (bs : List ℕ) {x : Result JobRead Refusal} (read : x ≡ job_read_of (trailer bs) (parse bs)) where
  pub count-accepted : {j : JobRead} → x ≡ Ok j → j.trailer.count ≡ instruction_count (parse bs)
  unfolding end_place
  count-accepted e =
      let a = read-accepted bs read e in
      ap (λ (u : Trailer). u.count) a.trailer ∙ sym (job-end (passed bs a.job a.parsed)) ∙ sym (ap instruction_count a.parsed)

  pub count-refused : {r : Refusal} → x ≡ Err r → 0 ≡ instruction_count (parse bs)
  count-refused e = rw (read-refused bs read e)

-- ---- the call by the fixed table
fixed-rejected : (bs : List ℕ) (a : Areas) (n : Refusal) → parse bs ≡ rejected n → fixed_run_call bs a ≡ record { answer = run_refused n; areas = a }
unfolding fixed_run_call run_parsed
fixed-rejected bs a n p = rw (p, run_parsed)

fixed-runs : (bs : List ℕ) (a : Areas) (job : Job) → parse bs ≡ accepted job → long_enough job a ≡ true
    → (let R = mispredicting_run job (room a.trace) in fixed_run_call bs a ≡ record { answer = run_report job R; areas = areas_after R a })
unfolding fixed_run_call run_parsed
fixed-runs bs a job p l = rw (p, l, run_parsed)

-- ---- the lines of a call
-- what a call on these areas leaves in its trace area, and the lines that are printed of it
record Shown (n k : ℕ) (P : Parsed) (a : RunAnswer) (trace trace' : List ℕ) : Type 0 where
  pub traced : trace' ≡ trace_after P trace
  pub lines : printed n a trace' ≡ listing_of k P

-- areas that are long enough for a job
enough : (job : Job) (a : Areas) → working_words ≤ length a.work → length job.init + table_size ≤ length a.end → long_enough job a ≡ true
unfolding long_enough
enough job a h k = rw (le-leb working_words (length a.work) h, le-leb (length job.init + table_size) (length a.end) k)

-- a run by the fixed table, which gives what was read of the file
module _ (bs t e w : List ℕ) {a : RunAnswer} {t' e' w' : List ℕ} (x : Exact (fixed_run_call bs (lent t e w)) a (lent t' e' w')) where
  answer-of : {called : Called RunAnswer Areas} → fixed_run_call bs (lent t e w) ≡ called → a ≡ called.answer
  answer-of q = x.answer ∙ ap (λ (z : Called RunAnswer Areas). z.answer) q

  trace-of : {called : Called RunAnswer Areas} → fixed_run_call bs (lent t e w) ≡ called → t' ≡ called.areas.trace
  trace-of q = ap (λ (z : Areas). z.trace) x.areas ∙ ap (λ (z : Called RunAnswer Areas). z.areas.trace) q

  module _ (he : limit + table_size ≤ length e) (hw : working_words ≤ length w) {n : ℕ} (k : n ≡ instruction_count (parse bs)) where
    shown-refused : (r : Refusal) → parse bs ≡ rejected r → Shown n (room t) (rejected r) a t t'
    unfolding listing_of trace_after
    shown-refused r p =
        let q = fixed-rejected bs (lent t e w) r p in
        record { traced = trace-of q; lines = rw (answer-of q) (printed-refused n r t') }

    shown-run : (job : Job) → parse bs ≡ accepted job → Shown n (room t) (accepted job) a t t'
    unfolding listing_of trace_after areas_after
    shown-run job p =
        let R = mispredicting_run job (room t) in
        let s = init-most (passed bs job p) in
        let l = enough job (lent t e w) hw (omega arith) in
        let q = fixed-runs bs (lent t e w) job p l in
        let m : n ≡ end_place job.code = k ∙ ap instruction_count p in
        record { traced = trace-of q; lines = rw (answer-of q, trace-of q, ← m) (printed-report n job R t) }

    shown : Shown n (room t) (parse bs) a t t'
    shown = go (parse bs) refl
      where
        go : (P : Parsed) → parse bs ≡ P → Shown n (room t) P a t t'
        go (rejected r) p = shown-refused r p
        go (accepted job) p = shown-run job p

    pub prints : {out out' : List ℕ} {r : ℕ} → Put out 0 (printed n a t') out' r → Prints bs t t' out out' r
    prints p = record { traced = shown.traced; lines = rw shown.lines at p }

-- ---- how long they are
pub printed-bound : (n : ℕ) (a : RunAnswer) (trace : List ℕ) {out out' : List ℕ} {r : ℕ} → Put out 0 (printed n a trace) out' r
    → r ≤ 15 * length trace + 31086
unfolding printed
printed-bound n a trace p =
    let os = observations_in (observation_count a.outcome) trace in
    omega (arith, put_next p, answer-bound n os a, observations-length (observation_count a.outcome) trace)

-- ---- the listing, with room for 512 observations
pub listed : {bs t t' out out' : List ℕ} {r : ℕ} → room t ≡ printed_room → Prints bs t t' out out' r → r ≤ length out → Listed bs out out' r
unfolding written
listed {bs} {t} {t'} {out} {out'} {r} e p h =
    let q : Put out 0 (listing bs) out' r = unfold listing in rw e at p.lines in
    let s = put_next q in
    let f = put-fits q (omega arith) in
    let m : length out' ≡ length out = ap length q.area ∙ length-sets out 0 (listing bs) in
    let x : take r out' ≡ listing bs = rw (s, f) (take-append_seam (listing bs) _) in
    record { area = f; size = s; fits = omega arith; part = rw x s }
