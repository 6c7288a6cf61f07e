-- What is asked for where an old disk is to be carried over.
use Rattle.std.specs.Prelude.{ℕ, ◌≡◌, ◌≢◌, ◌⊎◌, ◌<◌, ◌==◌, List, Option, Some, None, IfSome, Result, Ok, Err, length}
use Rattle.std.specs.List.{find}
use Rattle.rz_ports.specs.Counts.{Rises}
use Rattle.mj_angles.specs.Layout.{bsize_of}
use Rattle.rz_events.specs.Volume.{IsNode, Volume, nodes_of}
use Rattle.rz_events.specs.declared.files.NodeSpec.{NodeSpec}
use Rattle.rz_script.specs.Grammar.{script}
use Rattle.rz_script.specs.Scripts.{Script}
use Rattle.rz_script_words.specs.declared.form.Form.TheVariants as forms
use Rattle.rz_script.specs.declared.fault.ScriptError.{ScriptError}
use Rattle.rz_script.specs.declared.fault.ScriptError.TheVariants as errors
use Rattle.rz_request.specs.Input.{limit}
use Rattle.rz_request.specs.Requests.{IsInputRead, Reading}
use Rattle.rz_request.specs.declared.old.OldNode.{OldNode}
use Rattle.rz_request.specs.declared.refusal.Refusal.TheVariants as refusals
use Rattle.rz_request.specs.declared.refusal.Stop.{Stop}
use Rattle.rz_request.specs.declared.refusal.Stop.TheVariants as stops

-- the node of a volume with a number
abbrev pub node_with : ℕ → Volume → Option NodeSpec
node_with sid v = find (λ n. n.sid == sid) (nodes_of v.clusters)

-- this is the node with that number, and blocks have 4096 bytes
pub record IsOldNode (v : Volume) (sid : ℕ) (o : OldNode) : Type 0 where
  pub layout : o.layout ≡ v.layout
  pub small : bsize_of v.layout ≡ 0
  pub node : node_with sid v ≡ Some o.node
  pub rules : IsNode o.node

-- there is no such node, or blocks have more bytes
abbrev pub HasNoOldNode : Volume → ℕ → Type 0
HasNoOldNode v sid = (node_with sid v ≡ None) ⊎ (bsize_of v.layout ≢ 0)

-- What a reading of a volume comes to over so many disks: its first fault; another number of disks than two; no node of an old
-- disk; or the node. Want of memory says nothing.
abbrev pub JudgesNode : Result Script ScriptError → ℕ → ℕ → Result OldNode Stop → Type 0
JudgesNode read sid disks (Ok o) = (s : Script) × (read ≡ Ok s) × (disks ≡ 2) × IsOldNode s.volume sid o
JudgesNode read sid disks (Err stops.NoMemory) = Unit {0}
JudgesNode read sid disks (Err (stops.Refused (refusals.Script line cause))) = read ≡ Err (errors.Script line cause)
JudgesNode read sid disks (Err (stops.Refused (refusals.Volume fault))) = read ≡ Err (errors.Volume fault)
JudgesNode read sid disks (Err (stops.Refused (refusals.Disks have need))) =
    (s : Script) × (read ≡ Ok s) × (have ≡ disks) × (need ≡ 2) × (have ≢ need)
JudgesNode read sid disks (Err (stops.Refused (refusals.Node its))) =
    (s : Script) × (read ≡ Ok s) × (disks ≡ 2) × (its ≡ sid) × HasNoOldNode s.volume sid
JudgesNode read sid disks (Err _) = ⊥

-- What a source comes to: more was left than the limit; its faults rose; or all that was left is judged as a volume.
abbrev pub ReadsNode : Reading → ℕ → ℕ → Result OldNode Stop → Type 0
ReadsNode source sid disks (Err stops.Source) = Rises source.old source.new
ReadsNode source sid disks (Err stops.NoMemory) = Unit {0}
ReadsNode source sid disks (Err (stops.Refused refusals.Long)) = IfSome source.before (λ left. limit < length left)
ReadsNode source sid disks result = (text : List ℕ) × IsInputRead source text × JudgesNode (script forms.Migrate text) sid disks result
