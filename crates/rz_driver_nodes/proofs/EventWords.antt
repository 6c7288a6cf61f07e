-- Whose word an event is of.
use Rattle.std.proofs.Common.{◌≡◌, ◌≢◌, ℕ, Bool, true, false, cond, List, ◌∷◌, Option, Some, None, IfSome, refl, sym, ap, subst}
use Rattle.std.proofs.lemmas.Bool.{eqb-true}
use Rattle.rz_events.specs.declared.keys.Actor.{Actor}
use Rattle.rz_events.specs.declared.export.Call.{Call}
use Rattle.rz_events.specs.declared.export.Call.TheVariants as call
use Rattle.rz_events.specs.declared.export.Reply.{Reply}
use Rattle.rz_events.specs.declared.export.Reply.TheVariants as reply
use Rattle.rz_events.specs.declared.nodes.KeepAnswer.TheVariants as keep
use Rattle.rz_events.specs.declared.nodes.FetchAnswer.TheVariants as fetch
use Rattle.rz_events.specs.declared.nodes.RefillAnswer.TheVariants as refill
use Rattle.rz_events.specs.declared.nodes.DropAnswer.TheVariants as drops
use Rattle.rz_events.specs.declared.nodes.StartAnswer.TheVariants as start
use Rattle.rz_events.specs.declared.nodes.ReplaceAnswer.TheVariants as replace
use Rattle.rz_events.specs.declared.nodes.NodeAsk.{NodeAsk}
use Rattle.rz_events.specs.declared.nodes.NodeAsk.TheVariants as ask
use Rattle.rz_events.specs.declared.nodes.NodeAnswer.{NodeAnswer}
use Rattle.rz_events.specs.declared.nodes.NodeAnswer.TheVariants as answer
use Rattle.rz_events.specs.declared.events.Word.{Word}
use Rattle.rz_events.specs.declared.events.Word.TheVariants.{Node}
use Rattle.rz_events.specs.declared.events.Event.{Event}
use Rattle.rz_events.specs.Events.{word_of, same_word}
use Rattle.rz_node_model.specs.NodeEvents.{node_event}
use Rattle.rz_export_model.specs.ExportEvents.{export_event}
use Rattle.rz_operation_model.specs.Ask.{Saying, SayGot, SayGave, SayLeft, SayDone}
use Rattle.rz_operation_model.specs.Turns.{said_event}
use Rattle.rz_core.specs.History.{of_word}
use Rattle.rz_play.specs.Lines.{noted}

the_some : (x y : Event) → Some x ≡ Some y → x ≡ y
the_some x y is = cc

-- Words of a longer log.

pub word-stays : (n : ℕ) (x : Event) (h : List Event) → same_word (Node n) (word_of x) ≡ false → of_word (Node n) (x ∷ h) ≡ of_word (Node n) h
word-stays n x h is = ap (λ b. cond b (x ∷ of_word (Node n) h) (of_word (Node n) h)) is

pub word-apart : (n m : ℕ) (x : Event) → word_of x ≡ Node m → n ≢ m → same_word (Node n) (word_of x) ≡ false
word-apart n m x is apart = subst (λ (v : Word). same_word (Node n) v ≡ false) (sym is) (go (same_word (Node n) (Node m)) refl)
  where
    go : (b : Bool) → same_word (Node n) (Node m) ≡ b → same_word (Node n) (Node m) ≡ false
    go true at = absurd (apart (eqb-true n m at))
    go false at = at

-- Events.

-- an event of the export is of no node's word
pub export-word : (by : Actor) (c : Call) (r : Reply) (n : ℕ) → IfSome (export_event by c r) (λ x. same_word (Node n) (word_of x) ≡ false)
export-word by (call.Tree c) (reply.Tree r) n = refl
export-word by (call.Tree c) (_) n = tt
export-word by (call.Begin key text) (reply.Begun stamp base) n = refl
export-word by (call.Begin key text) (reply.Denied why) n = refl
export-word by (call.Begin key text) (_) n = tt
export-word by (call.Publish key stamp mask size) reply.Accepted n = refl
export-word by (call.Publish key stamp mask size) (reply.Enrolled p fence) n = refl
export-word by (call.Publish key stamp mask size) (reply.Revoked later) n = refl
export-word by (call.Publish key stamp mask size) (reply.Denied why) n = refl
export-word by (call.Publish key stamp mask size) (_) n = tt
export-word by (call.Look key) (reply.Looked p) n = refl
export-word by (call.Look key) (reply.Denied why) n = refl
export-word by (call.Look key) (_) n = tt
export-word by (call.Recheck key) (reply.Looked p) n = refl
export-word by (call.Recheck key) (reply.Denied why) n = refl
export-word by (call.Recheck key) (_) n = tt
export-word by (call.Enroll node loss) (reply.Fence fence) n = refl
export-word by (call.Enroll node loss) (reply.Denied why) n = refl
export-word by (call.Enroll node loss) (_) n = tt
export-word by (call.Next node after) (reply.Listed l) n = refl
export-word by (call.Next node after) (_) n = tt

pub export-quiet : (by : Actor) (c : Call) (r : Reply) (x : Event) → export_event by c r ≡ Some x → (n : ℕ) → same_word (Node n) (word_of x) ≡ false
export-quiet by c r x is n = subst (λ (o : Option Event). IfSome o (λ y. same_word (Node n) (word_of y) ≡ false)) is (export-word by c r n)

pub said-quiet : (by : Actor) (number : ℕ) (text : List ℕ) (said : Saying) (n : ℕ) → same_word (Node n) (word_of (said_event by number text said)) ≡ false
said-quiet by number text (SayGot key part mark) n = refl
said-quiet by number text (SayGave key part end) n = refl
said-quiet by number text (SayLeft key why) n = refl
said-quiet by number text (SayDone answer) n = refl

-- the event of a call of node n is of its word
pub node-word : (by : Actor) (n : ℕ) (question : NodeAsk) (given : NodeAnswer) → IfSome (node_event by n question given) (λ x. word_of x ≡ Node n)
node-word by n (ask.Keep head) (answer.Keep keep.Kept) = refl
node-word by n (ask.Keep head) (answer.Keep (keep.Passed held)) = refl
node-word by n (ask.Keep head) (answer.Keep keep.Lost) = refl
node-word by n (ask.Keep head) (answer.Keep keep.Down) = refl
node-word by n (ask.Keep head) (answer.Keep (keep.Fenced fence)) = refl
node-word by n (ask.Keep head) (answer.Keep keep.Full) = refl
node-word by n (ask.Keep head) (answer.Keep keep.DiskFault) = refl
node-word by n (ask.Keep head) (_) = tt
node-word by n (ask.Fetch key p s) (answer.Fetch (fetch.Held r)) = refl
node-word by n (ask.Fetch key p s) (answer.Fetch fetch.Nothing) = refl
node-word by n (ask.Fetch key p s) (answer.Fetch fetch.Lost) = refl
node-word by n (ask.Fetch key p s) (answer.Fetch fetch.Down) = refl
node-word by n (ask.Fetch key p s) (answer.Fetch fetch.DiskFault) = refl
node-word by n (ask.Fetch key p s) (_) = tt
node-word by n (ask.Refill fence head) (answer.Refill refill.Kept) = refl
node-word by n (ask.Refill fence head) (answer.Refill (refill.Passed held)) = refl
node-word by n (ask.Refill fence head) (answer.Refill refill.Lost) = refl
node-word by n (ask.Refill fence head) (answer.Refill refill.Down) = refl
node-word by n (ask.Refill fence head) (answer.Refill (refill.OtherFence now)) = refl
node-word by n (ask.Refill fence head) (answer.Refill refill.Full) = refl
node-word by n (ask.Refill fence head) (answer.Refill refill.DiskFault) = refl
node-word by n (ask.Refill fence head) (_) = tt
node-word by n (ask.Drop fid) (answer.Drop (drops.Dropped block stamp more)) = refl
node-word by n (ask.Drop fid) (answer.Drop drops.Nothing) = refl
node-word by n (ask.Drop fid) (answer.Drop drops.Lost) = refl
node-word by n (ask.Drop fid) (answer.Drop drops.Down) = refl
node-word by n (ask.Drop fid) (answer.Drop (drops.DiskFault block stamp)) = refl
node-word by n (ask.Drop fid) (_) = tt
node-word by n ask.Probe (answer.Probe loss) = refl
node-word by n ask.Probe (_) = tt
node-word by n ask.Stop (answer.Stop true) = refl
node-word by n ask.Stop (answer.Stop false) = tt
node-word by n ask.Stop (_) = tt
node-word by n ask.Start (answer.Start (start.Started took)) = refl
node-word by n ask.Start (answer.Start start.NotDown) = tt
node-word by n ask.Start (answer.Start start.NoMemory) = tt
node-word by n ask.Start (answer.Start (start.Unopened fault)) = refl
node-word by n ask.Start (_) = tt
node-word by n ask.Lose (answer.Lose None) = tt
node-word by n ask.Lose (answer.Lose (Some loss)) = refl
node-word by n ask.Lose (_) = tt
node-word by n (ask.Replace loss fence) (answer.Replace replace.Replaced) = refl
node-word by n (ask.Replace loss fence) (answer.Replace replace.NotLost) = refl
node-word by n (ask.Replace loss fence) (answer.Replace (replace.OtherLoss now)) = refl
node-word by n (ask.Replace loss fence) (answer.Replace replace.NoMemory) = tt
node-word by n (ask.Replace loss fence) (answer.Replace replace.DiskFault) = refl
node-word by n (ask.Replace loss fence) (_) = tt

-- the word of the node has the event, and those of the others stay
pub noted-others : (n : ℕ) (o : Option Event) (h : List Event) → IfSome o (λ x. word_of x ≡ Node n) → (m : ℕ) → m ≢ n → of_word (Node m) (noted o h) ≡ of_word (Node m) h
noted-others n None h own m apart = refl
noted-others n (Some x) h own m apart = word-stays m x h (word-apart m n x own apart)
