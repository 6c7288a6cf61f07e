-- The state of a node after each answer. Where none is named, it is as before.
use Rattle.std.specs.Prelude.{ℕ, Bool, true, false, Option, Some, None}
use Rattle.std.specs.FinMap as map
use Rattle.rz_events.specs.declared.keys.Key.{Key}
use Rattle.rz_events.specs.declared.records.Held.{Held}
use Rattle.rz_events.specs.declared.nodes.Phase.TheVariants.{Up, Down, Lost}
use Rattle.rz_events.specs.declared.nodes.KeepAnswer.{KeepAnswer}
use Rattle.rz_events.specs.declared.nodes.KeepAnswer.TheVariants as keep
use Rattle.rz_events.specs.declared.nodes.RefillAnswer.{RefillAnswer}
use Rattle.rz_events.specs.declared.nodes.RefillAnswer.TheVariants as refill
use Rattle.rz_events.specs.declared.nodes.FetchAnswer.{FetchAnswer}
use Rattle.rz_events.specs.declared.nodes.FetchAnswer.TheVariants as fetch
use Rattle.rz_events.specs.declared.nodes.DropAnswer.{DropAnswer}
use Rattle.rz_events.specs.declared.nodes.DropAnswer.TheVariants as drop
use Rattle.rz_events.specs.declared.nodes.StartAnswer.{StartAnswer}
use Rattle.rz_events.specs.declared.nodes.StartAnswer.TheVariants as start
use Rattle.rz_events.specs.declared.nodes.ReplaceAnswer.{ReplaceAnswer}
use Rattle.rz_events.specs.declared.nodes.ReplaceAnswer.TheVariants as replace
use Rattle.rz_events.specs.declared.nodes.NodeAsk.{NodeAsk}
use Rattle.rz_events.specs.declared.nodes.NodeAsk.TheVariants as ask
use Rattle.rz_events.specs.declared.nodes.NodeAnswer.{NodeAnswer}
use Rattle.rz_events.specs.declared.nodes.NodeAnswer.TheVariants as answer
use Rattle.rz_node_model.specs.declared.pending.Pending.{Pending}
use Rattle.rz_node_model.specs.declared.pending.Pending.TheVariants as pending
use Rattle.rz_node_model.specs.Records.{Records, record_of, key_at, carried}
use Rattle.rz_node_model.specs.States.{NodeState, opened}

-- the change was carried out
abbrev pub with_change : NodeState → Pending → NodeState
with_change s change = record s { held = carried change s.held }

-- a disk fault: the node is down, and the change that was tried, if any, is undecided
abbrev pub after_fault : NodeState → Option Pending → NodeState
after_fault s change = record s { phase = Down; undecided = change }

abbrev pub after_keep : KeepAnswer → NodeState → Key → Held → NodeState
after_keep keep.Kept s key r = with_change s (pending.Keep key r)
after_keep keep.DiskFault s key r = after_fault s (Some (pending.Keep key r))
after_keep _ s key r = s

abbrev pub after_refill : RefillAnswer → NodeState → Key → Held → NodeState
after_refill refill.Kept s key r = with_change s (pending.Refill key r)
after_refill refill.DiskFault s key r = after_fault s (Some (pending.Refill key r))
after_refill _ s key r = s

abbrev pub after_fetch : FetchAnswer → NodeState → NodeState
after_fetch fetch.DiskFault s = after_fault s None
after_fetch _ s = s

abbrev pub after_drop : DropAnswer → NodeState → ℕ → NodeState
after_drop (drop.Dropped block stamp more) s fid = with_change s (pending.Drop (key_at fid block) stamp)
after_drop (drop.DiskFault block stamp) s fid = after_fault s (Some (pending.Drop (key_at fid block) stamp))
after_drop _ s fid = s

abbrev pub after_stop : Bool → NodeState → NodeState
after_stop true s = record s { phase = Down }
after_stop false s = s

-- the records with the change, where there is one
abbrev pub taken : Option Pending → Records → Records
taken None held = held
taken (Some change) held = carried change held

-- A start that took has the change that was undecided, and another one has it not.
abbrev pub after_start : StartAnswer → NodeState → NodeState
after_start (start.Started true) s = record s { phase = Up; held = taken s.undecided s.held; undecided = None }
after_start (start.Started false) s = record s { phase = Up; undecided = None }
after_start _ s = s

-- a lost node holds nothing; its fence stays
abbrev pub after_lose : Option ℕ → NodeState → NodeState
after_lose None s = s
after_lose (Some losses) s = record s { phase = Lost; losses = losses; held = map.empty; undecided = None }

abbrev pub after_replace : ReplaceAnswer → NodeState → ℕ → NodeState
after_replace replace.Replaced s fence = opened s.losses fence map.empty
after_replace _ s fence = s

-- The state after an answer to any call.
abbrev pub after_answer : NodeAsk → NodeAnswer → NodeState → NodeState
after_answer (ask.Keep head) (answer.Keep given) s = after_keep given s head.key (record_of head)
after_answer (ask.Fetch key position stamp) (answer.Fetch given) s = after_fetch given s
after_answer (ask.Refill fence head) (answer.Refill given) s = after_refill given s head.key (record_of head)
after_answer (ask.Drop fid) (answer.Drop given) s = after_drop given s fid
after_answer ask.Stop (answer.Stop given) s = after_stop given s
after_answer ask.Start (answer.Start given) s = after_start given s
after_answer ask.Lose (answer.Lose given) s = after_lose given s
after_answer (ask.Replace loss fence) (answer.Replace given) s = after_replace given s fence
after_answer _ _ s = s
