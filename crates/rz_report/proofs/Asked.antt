-- What is asked for, where nothing stands in its way: each answer but the script and want of memory is excluded.
use Rattle.std.proofs.Common.{ℕ, true, false, ◌≡◌, ◌≤◌, ◌<◌, IfSome, List, [], Option, Some, Result, Ok, Err, length, sym, ◌∙◌, subst, arith}
use Rattle.rz_ports.specs.Counts.{Rises}
use Rattle.rz_script.specs.Grammar.{script}
use Rattle.rz_script.specs.Scripts.{Script}
use Rattle.rz_script_words.specs.declared.form.Form.{Form}
use Rattle.rz_script.specs.declared.fault.ScriptError.{ScriptError}
use Rattle.rz_request.specs.Input.{limit}
use Rattle.rz_request.specs.Requests.{Reading, JudgesScript, ReadsScript, IsInputRead, is_large}
use Rattle.rz_request.specs.declared.refusal.Refusal.TheVariants as refusals
use Rattle.rz_request.specs.declared.refusal.Stop.{Stop}
use Rattle.rz_request.specs.declared.refusal.Stop.TheVariants as stops

-- this script came; or memory was wanting
abbrev pub HasCome : Script → Result Script Stop → Type 0
HasCome s (Ok came) = came ≡ s
HasCome s (Err stops.NoMemory) = Unit {0}
HasCome s (Err _) = ⊥

ok-same : (x : Result Script ScriptError) (a b : Script) → x ≡ Ok a → x ≡ Ok b → a ≡ b
ok-same x a b at_a at_b = cc

module _ (read : Result Script ScriptError) (needs : Script → ℕ) (disks : ℕ) (s : Script) (is : read ≡ Ok s) (small : is_large s ≡ false) (fits : disks ≡ needs s) where
  pub judged : (result : Result Script Stop) → JudgesScript read needs disks result → HasCome s result
  judged (Ok came) h = ok-same read came s h.0 is
  judged (Err stops.NoMemory) h = tt
  judged (Err stops.Source) h = absurd h
  judged (Err (stops.Refused refusals.Usage)) h = absurd h
  judged (Err (stops.Refused (refusals.Script line cause))) h = cc
  judged (Err (stops.Refused (refusals.Volume fault))) h = cc
  judged (Err (stops.Refused refusals.Long)) h = absurd h
  judged (Err (stops.Refused refusals.Turns)) h = absurd h
  judged (Err (stops.Refused refusals.Large)) h =
      let large : is_large s ≡ true = subst (λ (x : Script). is_large x ≡ true) (ok-same read h.0 s h.1 is) h.2 in cc
  judged (Err (stops.Refused (refusals.Disks have need))) h =
      let need_is : need ≡ needs s = subst (λ (x : Script). need ≡ needs x) (ok-same read h.0 s h.1 is) h.4 in
      absurd (h.5 (h.3 ∙ fits ∙ sym need_is))
  judged (Err (stops.Refused (refusals.Disk index))) h = absurd h
  judged (Err (stops.Refused (refusals.Node sid))) h = absurd h
  judged (Err (stops.Refused (refusals.Old cause))) h = absurd h
  judged (Err (stops.Refused refusals.Journal)) h = absurd h
  judged (Err (stops.Refused refusals.Full)) h = absurd h
  judged (Err (stops.Refused (refusals.Open index cause))) h = absurd h

module _ (form : Form) (source : Reading) (needs : Script → ℕ) (disks : ℕ) (s : Script) (whole : ¬ Rises source.old source.new) (text : List ℕ) (left : source.before ≡ Some text) (short : length text ≤ limit)
    (means : script form text ≡ Ok s) (small : is_large s ≡ false) (fits : disks ≡ needs s) where
  -- the text that was read is the one that was left
  read-came : (result : Result Script Stop) → (t : List ℕ) × IsInputRead source t × JudgesScript (script form t) needs disks result → HasCome s result
  read-came result h =
      let same = subst (λ (b : Option (List ℕ)). IfSome b (λ x. (x ≡ h.0) × (source.after ≡ Some []))) left h.1.0 in
      let is : script form h.0 ≡ Ok s = subst (λ (t : List ℕ). script form t ≡ Ok s) same.0 means in
      judged (script form h.0) needs disks s is small fits result h.2

  pub has-come : (result : Result Script Stop) → ReadsScript form source needs disks result → HasCome s result
  has-come (Ok came) h = read-came (Ok came) h
  has-come (Err stops.NoMemory) h = tt
  has-come (Err stops.Source) h = absurd (whole h)
  has-come (Err (stops.Refused refusals.Usage)) h = read-came (Err (stops.Refused refusals.Usage)) h
  has-come (Err (stops.Refused (refusals.Script line cause))) h = read-came (Err (stops.Refused (refusals.Script line cause))) h
  has-come (Err (stops.Refused (refusals.Volume fault))) h = read-came (Err (stops.Refused (refusals.Volume fault))) h
  has-come (Err (stops.Refused refusals.Long)) h =
      let long = subst (λ (b : Option (List ℕ)). IfSome b (λ x. limit < length x)) left h in absurd (omega (arith, long, short))
  has-come (Err (stops.Refused refusals.Turns)) h = read-came (Err (stops.Refused refusals.Turns)) h
  has-come (Err (stops.Refused refusals.Large)) h = read-came (Err (stops.Refused refusals.Large)) h
  has-come (Err (stops.Refused (refusals.Disks have need))) h = read-came (Err (stops.Refused (refusals.Disks have need))) h
  has-come (Err (stops.Refused (refusals.Disk index))) h = read-came (Err (stops.Refused (refusals.Disk index))) h
  has-come (Err (stops.Refused (refusals.Node sid))) h = read-came (Err (stops.Refused (refusals.Node sid))) h
  has-come (Err (stops.Refused (refusals.Old cause))) h = read-came (Err (stops.Refused (refusals.Old cause))) h
  has-come (Err (stops.Refused refusals.Journal)) h = read-came (Err (stops.Refused refusals.Journal)) h
  has-come (Err (stops.Refused refusals.Full)) h = read-came (Err (stops.Refused refusals.Full)) h
  has-come (Err (stops.Refused (refusals.Open index cause))) h = read-came (Err (stops.Refused (refusals.Open index cause))) h
