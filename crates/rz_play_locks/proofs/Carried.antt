-- What each turn and each line keeps holds in every world of a play.
use Rattle.std.proofs.Common.{◌≡◌, inl, inr, ◌<◌, ◌≤◌, ◌+◌, ◌-◌, ◌^◌, ℕ, zero, suc, Bool, true, false, cond, List, [], ◌∷◌, ◌++◌, length, Option, Some, None, refl, sym, ◌∙◌, ap, subst, arith}
use Rattle.std.specs.List.{AllByRecursion}
use Rattle.rz_events.specs.Volume.{Volume}
use Rattle.rz_events.specs.declared.keys.Actor.{Actor}
use Rattle.rz_events.specs.declared.keys.Actor.TheVariants.{Admin}
use Rattle.rz_events.specs.declared.nodes.NodeAsk.{NodeAsk}
use Rattle.rz_events.specs.declared.nodes.NodeAsk.TheVariants as ask
use Rattle.rz_events.specs.declared.nodes.NodeAnswer.{NodeAnswer}
use Rattle.rz_events.specs.declared.nodes.NodeAnswer.TheVariants as answer
use Rattle.rz_events.specs.declared.nodes.StartAnswer.TheVariants as start
use Rattle.rz_events.specs.declared.events.Word.TheVariants.{Node}
use Rattle.rz_events.specs.declared.events.Event.{Event}
use Rattle.rz_events.specs.declared.events.Event.TheVariants as e
use Rattle.rz_events.specs.Events.{by_of, word_of, same_actor}
use Rattle.rz_node_model.specs.NodeEvents.{node_event}
use Rattle.rz_core.proofs.NodeSteps.{the_some}
use Rattle.rz_events.specs.declared.operations.Operation.{Operation}
use Rattle.rz_script.specs.declared.line.Line.{Line}
use Rattle.rz_script.specs.declared.line.Line.TheVariants as line
use Rattle.rz_play.specs.World.{World, actors, world_after, with_agenda, has_work}
use Rattle.rz_play.specs.Turns.{IsTurn}
use Rattle.rz_play.specs.Lines.{IsTurns, IsTurnOr, IsRound, IsRounds, IsAdminCall, noted, with_operation, with_miss, PlaysLine}
use Rattle.rz_play.specs.Played.{BeginsLines}
use Rattle.rz_script.specs.Lines.{IsActor}
use Rattle.rz_play_laws.specs.Fine.{IsTelling, MayBegin, IsFine}
use Rattle.rz_play_laws.proofs.Plays.{Leads, stays, then, wider, by-turn, by-line, begins-fine}
use Rattle.rz_play_laws.proofs.Scripts.{seated}
use Rattle.rz_play_locks.proofs.Barring.{in-front}
use Rattle.rz_play.specs.Stops.{BeginsLine, most_turns}
use Rattle.rz_node_model.specs.States.{NodeState}
use Rattle.rz_export_model.specs.Export.{Export}
use Rattle.std.proofs.lemmas.List.{append_cancel_right, append_assoc}
use Rattle.rz_script.specs.Lines.{IsLine}
use Rattle.rz_play_laws.specs.Runs.{IsScript}
use Rattle.std.specs.List.{range_with_len}
use Rattle.rz_events.specs.declared.keys.Actor.TheVariants.{Client, Rebuilder}
use Rattle.std.proofs.Common.{map}
use Rattle.rz_play_locks.specs.Operations.{given}

-- The actors of a script.

clients : (from count : ℕ) (more : List Actor) → 1 ≤ from → from + count ≤ 65 → AllByRecursion IsActor more → AllByRecursion IsActor (map Client (range_with_len from count) ++ more)
clients from zero more low high all = all
clients from (suc count) more low high all = ((low, omega (arith, high)), clients (from + 1) count more (omega (arith, low)) (omega (arith, high)) all)

rebuilders : (from count : ℕ) → 1 ≤ from → from + count ≤ 17 → AllByRecursion IsActor (map Rebuilder (range_with_len from count))
rebuilders from zero low high = tt
rebuilders from (suc count) low high = ((low, omega (arith, high)), rebuilders (from + 1) count (omega (arith, low)) (omega (arith, high)))

pub all-actors : AllByRecursion IsActor actors
all-actors = clients 1 64 (map Rebuilder (range_with_len 1 16)) (omega arith) (omega arith) (rebuilders 1 16 (omega arith) (omega arith))

some-actors : (done more : List Actor) → actors ≡ done ++ more → AllByRecursion IsActor done
some-actors done more is = in-front IsActor done more (subst (AllByRecursion IsActor) is all-actors)

-- an event of the administrator at a node
pub record IsAdmins (x : Event) : Type 0 where
  pub by_is : by_of x ≡ Admin
  pub at : (n : ℕ) × (word_of x ≡ Node n)

module _ (v : Volume) (tells : IsTelling v) (old : List Event) (P : (Actor → List Operation) → World → Type 0)
    (turns : (more : Actor → List Operation) (by : Actor) → IsActor by → (w next : World) → IsFine v old w → IsFine v old next → P more w → IsTurn v by w next → P more next)
    (gives : (more : Actor → List Operation) (by : Actor) (op : Operation) (w : World) → P (λ a. cond (same_actor a by) (op ∷ more a) (more a)) w
    → P more (with_agenda w by (with_operation (w.agendas by) op)))
    (misses : (more : Actor → List Operation) (by : Actor) (reply : Bool) (w : World) → P more w → P more (with_agenda w by (with_miss (w.agendas by) reply)))
    (admins : (more : Actor → List Operation) (w next : World) (xs : List Event) → IsFine v old w → AllByRecursion IsAdmins xs → next.agendas ≡ w.agendas → next.log ≡ xs ++ w.log → P more w → P more next) where
  -- what the lines between these worlds keep
  record Carries (more now : Actor → List Operation) (w next : World) (k : ℕ) : Type 0 where
    leads : Leads v old w next k
    carries : IsFine v old w → P more w → length next.log < 2 ^ 64 - 1 → P now next

  c-stays : (more : Actor → List Operation) (w next : World) → next ≡ w → Carries more more w next 0
  c-stays more w next is = record { leads = stays v old w next is; carries = λ fine p few. subst (P more) (sym is) p }

  short : (w next : World) (k : ℕ) → Leads v old w next k → length next.log < 2 ^ 64 - 1 → length w.log < 2 ^ 64 - 1
  short w next k leads few = let g = leads.grows in omega (arith, g, few)

  c-then : (more now later : Actor → List Operation) (w mid next : World) (j k : ℕ) → Carries more now w mid j → Carries now later mid next k → Carries more later w next (j + k)
  c-then more now later w mid next j k a b = record {
    leads = then v old w mid next j k a.leads b.leads;
    carries = λ fine p few.
        let few_mid = short mid next k b.leads few in
        b.carries (a.leads.keeps fine few_mid) (a.carries fine p few_mid) few;
  }

  c-wider : (more now : Actor → List Operation) (w next : World) (j k : ℕ) → j ≤ k → Carries more now w next j → Carries more now w next k
  c-wider more now w next j k low a = record { leads = wider v old w next j k low a.leads; carries = a.carries }

  c-both : (more : Actor → List Operation) (w mid next : World) → Carries more more w mid 0 → Carries more more mid next 0 → Carries more more w next 0
  c-both more w mid next a b = c-wider more more w next (0 + 0) 0 (omega arith) (c-then more more more w mid next 0 0 a b)

  module _ (more : Actor → List Operation) where
    c-turn : (by : Actor) → IsActor by → (w next : World) → IsTurn v by w next → Carries more more w next 0
    c-turn by ok w next is =
        let leads = by-turn v tells old by (seated by ok) w next is in
        record { leads = leads; carries = λ fine p few. turns more by ok w next fine (leads.keeps fine few) p is }

    c-turns : (by : Actor) → IsActor by → (k : ℕ) (w next : World) → IsTurns v by k w next → Carries more more w next 0
    c-turns by ok zero w next is = c-stays more w next is
    c-turns by ok (suc k) w next (mid, first, rest) = c-both more w mid next (c-turn by ok w mid first) (c-turns by ok k mid next rest)

    c-turn-or : (b : Bool) (by : Actor) → IsActor by → (w next : World) → IsTurnOr b v by w next → Carries more more w next 0
    c-turn-or true by ok w next is = c-turn by ok w next is
    c-turn-or false by ok w next is = c-stays more w next is

    c-round : (agendas : List Actor) → AllByRecursion IsActor agendas → (w next : World) → IsRound v agendas w next → Carries more more w next 0
    c-round [] ok w next is = c-stays more w next is
    c-round (a ∷ agendas) ok w next (mid, first, rest) =
        c-both more w mid next (c-turn-or (has_work (w.agendas a)) a ok.0 w mid first) (c-round agendas ok.1 mid next rest)

    c-rounds : (k : ℕ) (w next : World) → IsRounds v k w next → Carries more more w next 0
    c-rounds zero w next is = c-stays more w next is
    c-rounds (suc k) w next (mid, first, rest) = c-both more w mid next (c-round actors all-actors w mid first) (c-rounds k mid next rest)

    c-wide : (w next : World) → Carries more more w next 0 → Carries more more w next 1
    c-wide w next a = c-wider more more w next 0 1 (omega arith) a

    -- the events of the administrator
    whose-stop : (n : ℕ) (given : NodeAnswer) (x : Event) → node_event Admin n ask.Stop given ≡ Some x → IsAdmins x
    whose-stop n (answer.Stop true) x is = subst IsAdmins (the_some _ x is) (record { by_is = refl; at = (n, refl) })
    whose-stop n (_) x is = cc

    whose-start : (n : ℕ) (given : NodeAnswer) (x : Event) → node_event Admin n ask.Start given ≡ Some x → IsAdmins x
    whose-start n (answer.Start (start.Started took)) x is = subst IsAdmins (the_some _ x is) (record { by_is = refl; at = (n, refl) })
    whose-start n (answer.Start (start.Unopened cause)) x is = subst IsAdmins (the_some _ x is) (record { by_is = refl; at = (n, refl) })
    whose-start n (_) x is = cc

    whose-lose : (n : ℕ) (given : NodeAnswer) (x : Event) → node_event Admin n ask.Lose given ≡ Some x → IsAdmins x
    whose-lose n (answer.Lose (Some loss)) x is = subst IsAdmins (the_some _ x is) (record { by_is = refl; at = (n, refl) })
    whose-lose n (_) x is = cc

    c-admin : (n : ℕ) (question : NodeAsk) → ((given : NodeAnswer) (x : Event) → node_event Admin n question given ≡ Some x → IsAdmins x)
        → (w next : World) → IsAdminCall v n question w next → Leads v old w next 1 → Carries more more w next 1
    c-admin n question whose w next is leads = record {
      leads = leads;
      carries = λ fine p few. go fine p (node_event Admin n question is.given) refl (ap (λ (z : World). z.log) is.next_is);
    }
      where
        go : IsFine v old w → P more w → (y : Option Event) → node_event Admin n question is.given ≡ y → next.log ≡ noted y w.log → P more next
        go fine p None at log_is = admins more w next [] fine tt (ap (λ (z : World). z.agendas) is.next_is) log_is p
        go fine p (Some x) at log_is = admins more w next (x ∷ []) fine (whose is.given x at, tt) (ap (λ (z : World). z.agendas) is.next_is) log_is p

  -- the operations that are still to come once a line is played
  abbrev after : (l : Line) → List Line → Actor → List Operation
  after l lines a = given a lines

  c-line : (l : Line) (lines : List Line) → IsLine v l → (w next : World) → PlaysLine v l w next
      → Carries (λ a. given a (l ∷ lines)) (λ a. given a lines) w next 1
  c-line (line.Op by op) lines ok w next is = record {
    leads = by-line v tells old (line.Op by op) ok w next is;
    carries = λ fine p few. subst (P (λ a. given a lines)) (sym is) (gives (λ a. given a lines) by op w p);
  }
  c-line (line.Turn by k) lines ok w next is = c-wide (λ a. given a lines) w next (c-turns (λ a. given a lines) by ok.0 k w next is)
  c-line (line.Rounds k) lines ok w next is = c-wide (λ a. given a lines) w next (c-rounds (λ a. given a lines) k w next is)
  c-line line.Rest lines ok w next (k, rounds, rest) = c-wide (λ a. given a lines) w next (c-rounds (λ a. given a lines) k w next rounds)
  c-line (line.Stop n) lines ok w next is = c-admin (λ a. given a lines) n ask.Stop (whose-stop (λ a. given a lines) n) w next is (by-line v tells old (line.Stop n) ok w next is)
  c-line (line.Start n) lines ok w next is = c-admin (λ a. given a lines) n ask.Start (whose-start (λ a. given a lines) n) w next is (by-line v tells old (line.Start n) ok w next is)
  c-line (line.Lose n) lines ok w next is = c-admin (λ a. given a lines) n ask.Lose (whose-lose (λ a. given a lines) n) w next is (by-line v tells old (line.Lose n) ok w next is)
  c-line (line.Break n k pick) lines ok w next is = record {
    leads = by-line v tells old (line.Break n k pick) ok w next is;
    carries = λ fine p few. admins (λ a. given a lines) w next (e.Armed n k pick ∷ []) fine (record { by_is = refl; at = (n, refl) }, tt)
        (ap (λ (z : World). z.agendas) is) (ap (λ (z : World). z.log) is) p;
  }
  c-line (line.Miss by reply) lines ok w next is = record {
    leads = by-line v tells old (line.Miss by reply) ok w next is;
    carries = λ fine p few. subst (P (λ a. given a lines)) (sym is) (misses (λ a. given a lines) by reply w p);
  }

  -- a line that was cut off
  c-begun : (l : Line) (lines : List Line) → IsLine v l → (w next : World) → BeginsLine v l w next
      → (more : Actor → List Operation) × Carries (λ a. given a (l ∷ lines)) more w next 0
  c-begun (line.Turn by k) lines ok w next (j, low, is) = (_, c-turns (λ a. given a lines) by ok.0 j w next is)
  c-begun (line.Rounds k) lines ok w next (j, low, (mid, rounds, (done, rest, is, round))) =
      (_, c-both (λ a. given a lines) w mid next (c-rounds (λ a. given a lines) j w mid rounds) (c-round (λ a. given a lines) done (some-actors done rest is) mid next round))
  c-begun line.Rest lines ok w next (j, mid, rounds, (done, rest, is, round)) =
      (_, c-both (λ a. given a lines) w mid next (c-rounds (λ a. given a lines) j w mid rounds) (c-round (λ a. given a lines) done (some-actors done rest is) mid next round))
  c-begun (line.Op by op) lines ok w next is = (_, c-stays (λ a. given a (line.Op by op ∷ lines)) w next is)
  c-begun (line.Stop n) lines ok w next is = (_, c-stays (λ a. given a lines) w next is)
  c-begun (line.Start n) lines ok w next is = (_, c-stays (λ a. given a lines) w next is)
  c-begun (line.Lose n) lines ok w next is = (_, c-stays (λ a. given a lines) w next is)
  c-begun (line.Break n k pick) lines ok w next is = (_, c-stays (λ a. given a lines) w next is)
  c-begun (line.Miss by reply) lines ok w next is = (_, c-stays (λ a. given a lines) w next is)

  c-beginning : (lines : List Line) → AllByRecursion (IsLine v) lines → (w next : World) → BeginsLines v lines w next
      → (more : Actor → List Operation) × Carries (λ a. given a lines) more w next (length lines)
  c-beginning [] ok w next is = (λ a. [], c-stays (λ a. []) w next is)
  c-beginning (l ∷ lines) ok w next (inl begun) =
      let c = c-begun l lines ok.0 w next begun in
      (c.0, c-wider (λ a. given a (l ∷ lines)) c.0 w next 0 (length (l ∷ lines)) (omega arith) c.1)
  c-beginning (l ∷ lines) ok w next (inr (mid, first, rest)) =
      let c = c-beginning lines ok.1 mid next rest in (
        c.0,
        c-wider (λ a. given a (l ∷ lines)) c.0 w next (1 + length lines) (length (l ∷ lines)) (omega arith)
            (c-then (λ a. given a (l ∷ lines)) (λ a. given a lines) c.0 w mid next 1 (length lines) (c-line l lines ok.0 w mid first) c.1),
      )

  -- so it holds in every world of a play
  pub reached : (lines : List Line) → IsScript v lines → (nodes : ℕ → NodeState) (s : Export) → MayBegin v nodes s old → P (λ a. given a lines) (world_after nodes s old)
      → (w : World) → BeginsLines v lines (world_after nodes s old) w → w.turns ≤ most_turns → IsFine v old w × ((more : Actor → List Operation) × P more w)
  reached lines script nodes s b first w is few =
      let c = c-beginning lines script.limits (world_after nodes s old) w is in
      let most = c.1.leads.most in
      let less = script.few in
      let short_old = b.few in
      let first_fine : IsFine v old (world_after nodes s old) = begins-fine v nodes s old b in
      let room : length w.log < 2 ^ 64 - 1 = omega (arith, most, few, less, short_old) in
      (c.1.leads.keeps first_fine room, (c.0, c.1.carries first_fine first room))

-- the same of what is said of the events of this run too
record InRun (old : List Event) (Q : List Event → World → Type 0) (w : World) : Type 0 where
  run : List Event
  log_is : w.log ≡ run ++ old
  holds : Q run w

module _ (v : Volume) (tells : IsTelling v) (old : List Event) (Q : (Actor → List Operation) → List Event → World → Type 0)
    (turns : (more : Actor → List Operation) (by : Actor) → IsActor by → (w next : World) (fine : IsFine v old w) (fine_next : IsFine v old next) → Q more fine.run w → IsTurn v by w next → Q more fine_next.run next)
    (gives : (more : Actor → List Operation) (by : Actor) (op : Operation) (run : List Event) (w : World) → Q (λ a. cond (same_actor a by) (op ∷ more a) (more a)) run w
    → Q more run (with_agenda w by (with_operation (w.agendas by) op)))
    (misses : (more : Actor → List Operation) (by : Actor) (reply : Bool) (run : List Event) (w : World) → Q more run w → Q more run (with_agenda w by (with_miss (w.agendas by) reply)))
    (admins : (more : Actor → List Operation) (run : List Event) (w next : World) (xs : List Event) → IsFine v old w → w.log ≡ run ++ old → AllByRecursion IsAdmins xs → next.agendas ≡ w.agendas → next.log ≡ xs ++ w.log
    → Q more run w → Q more (xs ++ run) next) where
  same-run : (w : World) (fine : IsFine v old w) (run : List Event) → w.log ≡ run ++ old → run ≡ fine.run
  same-run w fine run log_is = append_cancel_right run fine.run old (sym log_is ∙ fine.log_is)

  pub reached-run : (lines : List Line) → IsScript v lines → (nodes : ℕ → NodeState) (s : Export) → MayBegin v nodes s old → Q (λ a. given a lines) [] (world_after nodes s old)
      → (w : World) → BeginsLines v lines (world_after nodes s old) w → w.turns ≤ most_turns → (fine : IsFine v old w) × ((more : Actor → List Operation) × Q more fine.run w)
  reached-run lines script nodes s b first w is few =
      let k = reached v tells old (λ more w. InRun old (Q more) w)
      (λ more by ok w next fine fine_next r turn. record {
        run = fine_next.run;
        log_is = fine_next.log_is;
        holds = turns more by ok w next fine fine_next (subst (λ (z : List Event). Q more z w) (same-run w fine r.run r.log_is) r.holds) turn;
      })
      (λ more by op w r. record { run = r.run; log_is = r.log_is; holds = gives more by op r.run w r.holds })
      (λ more by reply w r. record { run = r.run; log_is = r.log_is; holds = misses more by reply r.run w r.holds })
      (λ more w next xs fine all agendas_are log_is r. record {
        run = xs ++ r.run;
        log_is = log_is ∙ ap (λ (z : List Event). xs ++ z) r.log_is ∙ sym (append_assoc xs r.run old);
        holds = admins more r.run w next xs fine r.log_is all agendas_are log_is r.holds;
      })
      lines script nodes s b (record { run = []; log_is = refl; holds = first }) w is few in
      (k.0, (k.1.0, subst (λ (z : List Event). Q k.1.0 z w) (same-run w k.0 k.1.1.run k.1.1.log_is) k.1.1.holds))
