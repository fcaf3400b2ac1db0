-- The code's answer for a file that the rules parse, and what an answer says of the rules' parse.
-- Assumes nothing.
use Rattle.std.specs.Prelude.{◌≡◌, refl, Bool, true, false, List, ℕ, Result, Ok, Err}
use Rattle.std.proofs.Common.{sym, ap, ◌∙◌}
use Rattle.rules.specs.declared.Trailer.{Trailer}
use Rattle.rules.specs.declared.Refusal.{Refusal}
use Rattle.rules.specs.Rules.Runs.{Job}
use Rattle.rules.specs.Rules.JobFile.{Parsed, accepted, rejected, trailer, public_of, parse}
use Rattle.rules.proofs.Theorems.JobLaws.{passed, job-public}
use Rattle.job.specs.declared.JobRead.{JobRead}
use Rattle.job.specs.declared.accepted.AcceptedJob.{AcceptedJob}
use Rattle.job.specs.Accepting.{is_accepted}

-- a refused job is given by its refusal, an accepted one by its trailer t and its public list
abbrev pub job_read_of : Trailer → Parsed → Result JobRead Refusal
job_read_of t (accepted job) = Ok (record { trailer = t; public = job.public })
job_read_of t (rejected r) = Err r

-- ---- what an answer says
pub record Accepts (bs : List ℕ) (t : Trailer) : Type 0 where
  pub job : Job
  pub parsed : parse bs ≡ accepted job
  pub trailer : t ≡ trailer bs

-- x is what was read of the bytes
module _ (bs : List ℕ) {x : Result JobRead Refusal} (read : x ≡ job_read_of (trailer bs) (parse bs)) where
  answer_of : {P : Parsed} → parse bs ≡ P → x ≡ job_read_of (trailer bs) P
  answer_of p = read ∙ ap (job_read_of (trailer bs)) p

  pub read-accepted : {j : JobRead} → x ≡ Ok j → Accepts bs j.trailer
  read-accepted {j} e = go (parse bs) refl
    where
      go : (P : Parsed) → parse bs ≡ P → Accepts bs j.trailer
      go (accepted k) p = let o = sym e ∙ answer_of p in record { job = k; parsed = p; trailer = cc }
      go (rejected r) p = let o = sym e ∙ answer_of p in absurd (cc)

  -- the list that was read is the job's
  pub read-public : {j : JobRead} → x ≡ Ok j → j.public ≡ public_of j.trailer bs
  read-public {j} e = go (parse bs) refl
    where
      go : (P : Parsed) → parse bs ≡ P → j.public ≡ public_of j.trailer bs
      go (accepted k) p =
          let o = sym e ∙ answer_of p in
          let t : j.trailer ≡ trailer bs = cc in
          rw t ((let u : j.public ≡ k.public = cc in u) ∙ job-public (passed bs k p))
      go (rejected r) p = let o = sym e ∙ answer_of p in absurd (cc)

  -- an accepted job was read, with its list
  pub read-there : {t : Trailer} → Accepts bs t → (j : JobRead) × ((x ≡ Ok j) × (j.trailer ≡ t) × (j.public ≡ public_of t bs))
  read-there a =
      (record { trailer = trailer bs; public = a.job.public }, (answer_of a.parsed, sym a.trailer, rw a.trailer (job-public (passed bs a.job a.parsed))))

  pub read-refused : {r : Refusal} → x ≡ Err r → parse bs ≡ rejected r
  read-refused {r} e = go (parse bs) refl
    where
      go : (P : Parsed) → parse bs ≡ P → parse bs ≡ rejected r
      go (accepted k) p = let o = sym e ∙ answer_of p in absurd (cc)
      go (rejected s) p = let o = sym e ∙ answer_of p in p ∙ (cc)

-- ---- an accepted job as a value
pub accepts : (j : AcceptedJob) → Accepts j.bytes.now j.trailer
accepts j = go (parse j.bytes.now) refl j.parsed
  where
    go : (P : Parsed) → parse j.bytes.now ≡ P → is_accepted P ≡ true → Accepts j.bytes.now j.trailer
    go (accepted k) p e = record { job = k; parsed = p; trailer = j.read }
    go (rejected r) p e = absurd (let z : ◌≡◌ {A = Bool} false true = e in cc)
