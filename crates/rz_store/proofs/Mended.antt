-- A rebuild that ends with blocks left has left some.
use Rattle.std.proofs.Common.{ℕ, Bool, true, false, ◌≡◌, ◌==◌, cond, List, Option, Some, None, refl, subst, eq-eqb}
use Rattle.mj_angles.specs.declared.layout.Layout.{Layout}
use Rattle.rz_events.specs.declared.keys.Actor.{Actor}
use Rattle.rz_events.specs.declared.operations.Operation.TheVariants as operation
use Rattle.rz_events.specs.declared.files.Listed.{Listed}
use Rattle.rz_events.specs.declared.ends.RebuildEnd.{RebuildEnd}
use Rattle.rz_events.specs.declared.ends.RebuildEnd.TheVariants as ends
use Rattle.rz_events.specs.declared.export.Reply.TheVariants as reply
use Rattle.rz_events.specs.declared.nodes.NodeAnswer.TheVariants as node
use Rattle.rz_events.specs.declared.nodes.RefillAnswer.{RefillAnswer}
use Rattle.rz_events.specs.declared.nodes.RefillAnswer.TheVariants as refill
use Rattle.rz_events.specs.declared.nodes.ReplaceAnswer.{ReplaceAnswer}
use Rattle.rz_events.specs.declared.nodes.ReplaceAnswer.TheVariants as replace
use Rattle.rz_events.specs.declared.machines.RebuildAnswer.{RebuildAnswer}
use Rattle.rz_events.specs.declared.machines.RebuildAnswer.TheVariants as answers
use Rattle.rz_events.specs.declared.machines.RebuildAsk.{RebuildAsk}
use Rattle.rz_events.specs.declared.machines.RebuildAsk.TheVariants as asks
use Rattle.rz_events.specs.declared.events.Answer.{Answer}
use Rattle.rz_events.specs.declared.events.Answer.TheVariants as answer
use Rattle.rz_events.specs.declared.events.Event.{Event}
use Rattle.rz_operation_model.specs.Rebuild.{Rebuild, Going, Ended, RebuildState, Probing, Enrolling, Replacing, Listing, Copying, Refilling, Leaving, Tally, end_of, rebuild_told, after_probe, after_replace, after_refill, after_next, rebuild_ask}
use Rattle.rz_operation_model.specs.Ask.{Say, SayDone, Rest, rebuild_asks, ask_of}
use Rattle.rz_operation_model.specs.Work.{Work, Rebuilding, Ending, Over}
use Rattle.rz_operation_model.specs.Steps.{Told, Replied, Locked, Answered, Missed, Noted, begun, told, in_rebuild, rebuild_after}
use Rattle.rz_contents.specs.Putting.{IsCourseFrom, Starts, Goes}
use Rattle.rz_contents.specs.Mending.{IsRebuildEnding}

abbrev LeftSome : RebuildEnd → Type 0
LeftSome (ends.Left fence refilled left) = ¬ (left ≡ 0)
LeftSome end = Unit {0}

abbrev EndsRight : Rebuild → Type 0
EndsRight (Going s) = Unit {0}
EndsRight (Ended end) = LeftSome end

abbrev IsRight : Work → Type 0
IsRight (Rebuilding n s) = Unit {0}
IsRight (Ending (answer.Rebuild end)) = LeftSome end
IsRight (Ending a) = Unit {0}
IsRight Over = Unit {0}
IsRight work = ⊥

end-right : (t : Tally) → LeftSome (end_of t)
end-right t = go (t.left == 0) refl
  where
    go : (b : Bool) → (t.left == 0) ≡ b → LeftSome (cond b (ends.Rebuilt t.fence t.refilled) (ends.Left t.fence t.refilled t.left))
    go true none = tt
    go false some = λ none. absurd (let yes = eq-eqb t.left 0 none in cc)

probe-right : (o : Option ℕ) → EndsRight (after_probe o)
probe-right None = tt
probe-right (Some loss) = tt

replace-right : (loss fence : ℕ) (a : ReplaceAnswer) → EndsRight (after_replace loss fence a)
replace-right loss fence replace.Replaced = tt
replace-right loss fence replace.NotLost = tt
replace-right loss fence (replace.OtherLoss now) = tt
replace-right loss fence replace.DiskFault = tt
replace-right loss fence replace.NoMemory = tt

refill-right : (t : Tally) (l : Listed) (a : RefillAnswer) → EndsRight (after_refill t l a)
refill-right t l refill.Kept = tt
refill-right t l (refill.Passed held) = tt
refill-right t l refill.Lost = tt
refill-right t l (refill.OtherFence fence) = tt
refill-right t l refill.Down = tt
refill-right t l refill.Full = tt
refill-right t l refill.DiskFault = tt

next-right : (layout : Layout) (t : Tally) (o : Option Listed) → EndsRight (after_next layout t o)
next-right layout t None = end-right t
next-right layout t (Some l) = tt

told-right : (layout : Layout) (fits : Bool) (s : RebuildState) (a : RebuildAnswer) → EndsRight (rebuild_told layout fits s a)
told-right layout fits Probing (answers.Probed o) = probe-right o
told-right layout fits Probing (answers.Enrolled fence) = tt
told-right layout fits Probing (answers.Denied cause) = tt
told-right layout fits Probing (answers.Replaced a) = tt
told-right layout fits Probing (answers.Listed o) = tt
told-right layout fits Probing (answers.Fetched a) = tt
told-right layout fits Probing (answers.Rechecked p) = tt
told-right layout fits Probing (answers.Refilled a) = tt
told-right layout fits Probing answers.Missed = tt
told-right layout fits Probing answers.Noted = tt
told-right layout fits (Enrolling loss) (answers.Probed o) = tt
told-right layout fits (Enrolling loss) (answers.Enrolled fence) = tt
told-right layout fits (Enrolling loss) (answers.Denied cause) = tt
told-right layout fits (Enrolling loss) (answers.Replaced a) = tt
told-right layout fits (Enrolling loss) (answers.Listed o) = tt
told-right layout fits (Enrolling loss) (answers.Fetched a) = tt
told-right layout fits (Enrolling loss) (answers.Rechecked p) = tt
told-right layout fits (Enrolling loss) (answers.Refilled a) = tt
told-right layout fits (Enrolling loss) answers.Missed = tt
told-right layout fits (Enrolling loss) answers.Noted = tt
told-right layout fits (Replacing loss fence) (answers.Probed o) = tt
told-right layout fits (Replacing loss fence) (answers.Enrolled other) = tt
told-right layout fits (Replacing loss fence) (answers.Denied cause) = tt
told-right layout fits (Replacing loss fence) (answers.Replaced a) = replace-right loss fence a
told-right layout fits (Replacing loss fence) (answers.Listed o) = tt
told-right layout fits (Replacing loss fence) (answers.Fetched a) = tt
told-right layout fits (Replacing loss fence) (answers.Rechecked p) = tt
told-right layout fits (Replacing loss fence) (answers.Refilled a) = tt
told-right layout fits (Replacing loss fence) answers.Missed = tt
told-right layout fits (Replacing loss fence) answers.Noted = tt
told-right layout fits (Listing t) (answers.Probed o) = tt
told-right layout fits (Listing t) (answers.Enrolled fence) = tt
told-right layout fits (Listing t) (answers.Denied cause) = tt
told-right layout fits (Listing t) (answers.Replaced a) = tt
told-right layout fits (Listing t) (answers.Listed o) = next-right layout t o
told-right layout fits (Listing t) (answers.Fetched a) = tt
told-right layout fits (Listing t) (answers.Rechecked p) = tt
told-right layout fits (Listing t) (answers.Refilled a) = tt
told-right layout fits (Listing t) answers.Missed = tt
told-right layout fits (Listing t) answers.Noted = tt
told-right layout fits (Copying t l base s) (answers.Probed o) = tt
told-right layout fits (Copying t l base s) (answers.Enrolled fence) = tt
told-right layout fits (Copying t l base s) (answers.Denied cause) = tt
told-right layout fits (Copying t l base s) (answers.Replaced a) = tt
told-right layout fits (Copying t l base s) (answers.Listed o) = tt
told-right layout fits (Copying t l base s) (answers.Fetched a) = tt
told-right layout fits (Copying t l base s) (answers.Rechecked p) = tt
told-right layout fits (Copying t l base s) (answers.Refilled a) = tt
told-right layout fits (Copying t l base s) answers.Missed = tt
told-right layout fits (Copying t l base s) answers.Noted = tt
told-right layout fits (Refilling t l length base) (answers.Probed o) = tt
told-right layout fits (Refilling t l length base) (answers.Enrolled fence) = tt
told-right layout fits (Refilling t l length base) (answers.Denied cause) = tt
told-right layout fits (Refilling t l length base) (answers.Replaced a) = tt
told-right layout fits (Refilling t l length base) (answers.Listed o) = tt
told-right layout fits (Refilling t l length base) (answers.Fetched a) = tt
told-right layout fits (Refilling t l length base) (answers.Rechecked p) = tt
told-right layout fits (Refilling t l length base) (answers.Refilled a) = refill-right t l a
told-right layout fits (Refilling t l length base) answers.Missed = tt
told-right layout fits (Refilling t l length base) answers.Noted = tt
told-right layout fits (Leaving t key why) (answers.Probed o) = tt
told-right layout fits (Leaving t key why) (answers.Enrolled fence) = tt
told-right layout fits (Leaving t key why) (answers.Denied cause) = tt
told-right layout fits (Leaving t key why) (answers.Replaced a) = tt
told-right layout fits (Leaving t key why) (answers.Listed o) = tt
told-right layout fits (Leaving t key why) (answers.Fetched a) = tt
told-right layout fits (Leaving t key why) (answers.Rechecked p) = tt
told-right layout fits (Leaving t key why) (answers.Refilled a) = tt
told-right layout fits (Leaving t key why) answers.Missed = tt
told-right layout fits (Leaving t key why) answers.Noted = tt

after-right : (layout : Layout) (s : RebuildState) (t : Told) → EndsRight (rebuild_after layout s t)
after-right layout s (Replied (reply.Fence fence)) = told-right layout true s (answers.Enrolled fence)
after-right layout s (Replied (reply.Denied cause)) = told-right layout true s (answers.Denied cause)
after-right layout s (Replied (reply.Listed listed)) = told-right layout true s (answers.Listed listed)
after-right layout s (Replied (reply.Looked p)) = told-right layout true s (answers.Rechecked p)
after-right layout s (Replied (reply.Tree told)) = tt
after-right layout s (Replied (reply.Begun stamp base)) = tt
after-right layout s (Replied reply.Accepted) = tt
after-right layout s (Replied (reply.Enrolled position fence)) = tt
after-right layout s (Replied reply.NoMemory) = tt
after-right layout s (Replied (reply.Revoked later)) = tt
after-right layout s (Answered fits (node.Probe a)) = told-right layout fits s (answers.Probed a)
after-right layout s (Answered fits (node.Replace a)) = told-right layout fits s (answers.Replaced a)
after-right layout s (Answered fits (node.Fetch a)) = told-right layout fits s (answers.Fetched a)
after-right layout s (Answered fits (node.Refill a)) = told-right layout fits s (answers.Refilled a)
after-right layout s (Answered fits (node.Keep a)) = tt
after-right layout s (Answered fits (node.Drop a)) = tt
after-right layout s (Answered fits (node.Stop a)) = tt
after-right layout s (Answered fits (node.Start a)) = tt
after-right layout s (Answered fits (node.Lose a)) = tt
after-right layout s Missed = told-right layout true s answers.Missed
after-right layout s (Noted text) = told-right layout true s answers.Noted
after-right layout s (Locked granted r) = tt

in-right : (n : ℕ) (r : Rebuild) → EndsRight r → IsRight (in_rebuild n r)
in-right n (Going s) is = tt
in-right n (Ended end) is = is

turn-right : (layout : Layout) (work : Work) (t : Told) → IsRight work → IsRight (told layout work t)
turn-right layout (Rebuilding n s) t is = in-right n (rebuild_after layout s t) (after-right layout s t)
turn-right layout (Ending a) (Noted text) is = tt
turn-right layout (Ending a) (Replied r) is = is
turn-right layout (Ending a) (Locked granted r) is = is
turn-right layout (Ending a) (Answered fits given) is = is
turn-right layout (Ending a) Missed is = is
turn-right layout Over t is = tt
turn-right layout (_) t is = absurd is

course-right : (layout : Layout) (by : Actor) (number n : ℕ) (xs : List Event) (work : Work) → IsCourseFrom layout by number (begun (operation.Rebuild n)) xs work → IsRight work
course-right layout by number n xs work (Starts) = tt
course-right layout by number n xs work (Goes before was t ys course step) = turn-right layout was t (course-right layout by number n before was course)

-- a rebuild under way asks for more
asks-more : (layout : Layout) (n : ℕ) (q : RebuildAsk) (a : Answer) → ¬ (rebuild_asks layout n q ≡ Say (SayDone a))
asks-more layout n (asks.Probe) a is = cc
asks-more layout n (asks.Enroll loss) a is = cc
asks-more layout n (asks.Replace loss fence) a is = cc
asks-more layout n (asks.Next after) a is = cc
asks-more layout n (asks.Fetch key position from stamp) a is = cc
asks-more layout n (asks.Refill fence key stamp length position base) a is = cc
asks-more layout n (asks.Recheck key) a is = cc
asks-more layout n (asks.Left key why) a is = cc
asks-more layout n (asks.End) a is = cc

said-right : (layout : Layout) (work : Work) (end : RebuildEnd) → IsRight work → ask_of layout work ≡ Say (SayDone (answer.Rebuild end)) → LeftSome end
said-right layout (Rebuilding n s) end is says = absurd (asks-more layout n (rebuild_ask n s) (answer.Rebuild end) says)
said-right layout (Ending a) end is says = (let one : a ≡ answer.Rebuild end = cc in subst (λ (b : Answer). IsRight (Ending b)) one is)
said-right layout Over end is says = absurd (let no : Rest ≡ Say (SayDone (answer.Rebuild end)) = says in cc)
said-right layout (_) end is says = absurd is

pub left-some : (layout : Layout) (by : Actor) (number n fence refilled left : ℕ) (xs : List Event) → IsRebuildEnding layout by number n xs (ends.Left fence refilled left) → ¬ (left ≡ 0)
left-some layout by number n fence refilled left xs ending =
    said-right layout ending.0 (ends.Left fence refilled left) (course-right layout by number n xs ending.0 ending.1) ending.2
