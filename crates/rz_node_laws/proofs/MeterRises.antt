-- No call of a node makes the count of its disk fall.
use Rattle.std.proofs.Common.{◌≡◌, ◌≤◌, ℕ, Bool, true, false, IsTrue, Option, Some, None, ap, arith}
use Rattle.std.specs.Prelude.{if◌then◌else◌}
use Rattle.rz_disk.specs.Meter.{Meter, armed}
use Rattle.rz_events.specs.declared.nodes.NodeAsk.{NodeAsk}
use Rattle.rz_events.specs.declared.nodes.NodeAsk.TheVariants as ask
use Rattle.rz_events.specs.declared.nodes.NodeAnswer.{NodeAnswer}
use Rattle.rz_events.specs.declared.nodes.NodeAnswer.TheVariants as answer
use Rattle.rz_events.specs.declared.nodes.StartAnswer.{StartAnswer}
use Rattle.rz_events.specs.declared.nodes.StartAnswer.TheVariants as start
use Rattle.rz_events.specs.declared.nodes.ReplaceAnswer.TheVariants as replace
use Rattle.rz_node_model.specs.States.{NodeState}
use Rattle.rz_node_model.specs.Answers.{IsNodeAnswer}
use Rattle.rz_node.specs.Opens.{Opens}
use Rattle.rz_node.specs.Spends.{Spends, keep_used, fetch_used, refill_used, drop_used}
use Rattle.rz_node.specs.Calls.{CountsCall, IsNoStart}
use Rattle.rz_node.specs.Calls as calls

pub no-start : (question : NodeAsk) → calls.IsNoStart question → IsNoStart question
no-start ask.Start no_start = absurd no_start
no-start (_) no_start = tt

pub same-own : (old new : Meter) → new ≡ old → old.own ≤ new.own
same-own old new is = let same : new.own ≡ old.own = ap (λ (m : Meter). m.own) is in omega (arith, same)

spends-lasts : (k : ℕ) (used : Option Bool) (old new : Meter) → Spends k used old new → old.own ≤ new.own
spends-lasts k None old new is = same-own old new is
spends-lasts k (Some true) old new is = is.lasts.own
spends-lasts k (Some false) old new is = is.lasts.own

-- no call but a start makes the count fall, nor does that
pub counts-last : (k cells : ℕ) (question : NodeAsk) (given : NodeAnswer) (s : NodeState) (old new : Meter) → IsNoStart question → IsNodeAnswer cells s question given → CountsCall k given old new → old.own ≤ new.own
counts-last k cells question (answer.Keep a) s old new no_start is counts = spends-lasts 4 (keep_used a) old new counts
counts-last k cells question (answer.Fetch a) s old new no_start is counts = spends-lasts 1 (fetch_used a) old new counts
counts-last k cells question (answer.Refill a) s old new no_start is counts = spends-lasts 4 (refill_used a) old new counts
counts-last k cells question (answer.Drop a) s old new no_start is counts = spends-lasts 4 (drop_used a) old new counts
counts-last k cells ask.Start (answer.Start a) s old new no_start is counts = absurd no_start
counts-last k cells (ask.Keep head) (answer.Start a) s old new no_start is counts = absurd is
counts-last k cells (ask.Fetch key p t) (answer.Start a) s old new no_start is counts = absurd is
counts-last k cells (ask.Refill f head) (answer.Start a) s old new no_start is counts = absurd is
counts-last k cells (ask.Drop fid) (answer.Start a) s old new no_start is counts = absurd is
counts-last k cells ask.Probe (answer.Start a) s old new no_start is counts = absurd is
counts-last k cells ask.Stop (answer.Start a) s old new no_start is counts = absurd is
counts-last k cells ask.Lose (answer.Start a) s old new no_start is counts = absurd is
counts-last k cells (ask.Replace loss fence) (answer.Start a) s old new no_start is counts = absurd is
counts-last k cells question (answer.Replace replace.Replaced) s old new no_start is counts = counts.lasts.own
counts-last k cells question (answer.Replace replace.DiskFault) s old new no_start is counts = counts.lasts.own
counts-last k cells question (answer.Replace replace.NoMemory) s old new no_start is counts = counts.lasts.own
counts-last k cells question (answer.Replace replace.NotLost) s old new no_start is counts = same-own old new counts
counts-last k cells question (answer.Replace (replace.OtherLoss loss)) s old new no_start is counts = same-own old new counts
counts-last k cells question (answer.Probe a) s old new no_start is counts = same-own old new counts
counts-last k cells question (answer.Stop a) s old new no_start is counts = same-own old new counts
counts-last k cells question (answer.Lose a) s old new no_start is counts = same-own old new counts

pub opens-last : (k : ℕ) (given : StartAnswer) (old new : Meter) → Opens k given old new → old.own ≤ new.own
opens-last k start.NotDown old new is = same-own old new is
opens-last k start.NoMemory old new is = same-own old new is
opens-last k (start.Started took) old new is = is.lasts.own
opens-last k (start.Unopened cause) old new is = is.lasts.own

pub armed-there : (fuse : Bool) (passes : Option ℕ) (old new : Meter) → IsTrue fuse → new ≡ (if fuse then armed passes old else old) → new ≡ armed passes old
armed-there true passes old new has is = is
armed-there false passes old new has is = cc
