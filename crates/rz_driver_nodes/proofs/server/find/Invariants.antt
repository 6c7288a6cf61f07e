use Rattle.std.proofs.Common.{ℕ, ◌≡◌, ◌≢◌, ◌<◌, Some}
use Rattle.std.specs.Prelude.{slice_get}
use Rattle.rz_nodes.specs.declared.formatting.Server.{Server}
use Rattle.rz_driver_nodes.proofs.server.find.Given as goal

abbrev pub invariant-loop-i : goal.invariant-loop-i
invariant-loop-i g l = (k : ℕ) (x : Server g.row.D.Denot) → k < l.i → slice_get l.servers k ≡ Some x → x.sid ≢ l.sid
