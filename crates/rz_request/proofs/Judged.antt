-- A script that was read, and then judged over so many disks.
use Rattle.std.proofs.Common.{ℕ, List, Result, Ok, Err, sym, subst}
use Rattle.rz_script.specs.Grammar.{script}
use Rattle.rz_script.specs.Scripts.{Script}
use Rattle.rz_script_words.specs.declared.form.Form.{Form}
use Rattle.rz_script.specs.declared.fault.ScriptError.{ScriptError}
use Rattle.rz_request.specs.declared.refusal.Refusal.TheVariants as refusals
use Rattle.rz_request.specs.declared.refusal.Stop.{Stop}
use Rattle.rz_request.specs.declared.refusal.Stop.TheVariants as stops
use Rattle.rz_request.specs.Requests.{HasScript, IsInputRead, JudgesScript, Reading, ReadsScript}

module _ (form : Form) (source : Reading) (needs : Script → ℕ) (disks : ℕ) (s : Script) (has : HasScript form source (Ok s)) where
  all : (r : Result Script Stop) → JudgesScript (Ok s) needs disks r → (text : List ℕ) × IsInputRead source text × JudgesScript (script form text) needs disks r
  all r judged = (has.0, has.1, subst (λ (x : Result Script ScriptError). JudgesScript x needs disks r) (sym has.2) judged)

  pub reads_script : (r : Result Script Stop) → JudgesScript (Ok s) needs disks r → ReadsScript form source needs disks r
  reads_script (Ok x) judged = all (Ok x) judged
  reads_script (Err stops.NoMemory) judged = tt
  reads_script (Err stops.Source) judged = absurd judged
  reads_script (Err (stops.Refused refusals.Usage)) judged = absurd judged
  reads_script (Err (stops.Refused (refusals.Script line cause))) judged = all (Err (stops.Refused (refusals.Script line cause))) judged
  reads_script (Err (stops.Refused (refusals.Volume fault))) judged = all (Err (stops.Refused (refusals.Volume fault))) judged
  reads_script (Err (stops.Refused refusals.Long)) judged = absurd judged
  reads_script (Err (stops.Refused refusals.Turns)) judged = absurd judged
  reads_script (Err (stops.Refused refusals.Large)) judged = all (Err (stops.Refused refusals.Large)) judged
  reads_script (Err (stops.Refused (refusals.Disks have need))) judged = all (Err (stops.Refused (refusals.Disks have need))) judged
  reads_script (Err (stops.Refused (refusals.Disk index))) judged = absurd judged
  reads_script (Err (stops.Refused (refusals.Node sid))) judged = absurd judged
  reads_script (Err (stops.Refused (refusals.Old cause))) judged = absurd judged
  reads_script (Err (stops.Refused refusals.Journal)) judged = absurd judged
  reads_script (Err (stops.Refused refusals.Full)) judged = absurd judged
  reads_script (Err (stops.Refused (refusals.Open index cause))) judged = absurd judged
