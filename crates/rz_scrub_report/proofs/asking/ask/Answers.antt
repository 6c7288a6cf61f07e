use Rattle.std.proofs.Common.{◌≡◌, List, ℕ, refl, rules, arith}
use Rattle.std.proofs.lemmas.Grind.{common_steps}
use Rattle.rz_events.specs.declared.keys.Actor.TheVariants.{Admin}
use Rattle.rz_events.specs.declared.records.Held.{Held}
use Rattle.rz_events.specs.declared.nodes.FetchAnswer.{FetchAnswer}
use Rattle.rz_events.specs.declared.nodes.FetchAnswer.TheVariants as fetch
use Rattle.rz_node_model.specs.NodeEvents.{fetch_event}
use Rattle.rz_scrub.specs.Records.{Records}
use Rattle.rz_scrub_report.specs.Asks.{IsRecordAsked, with_given}
use Rattle.rz_scrub_report.proofs.Going.{has-one}
use Rattle.rz_scrub_report.proofs.asking.ask.Goals as goal

-- an answer that is no record adds nothing
nothing-given : (given : FetchAnswer) (s : Records) (position : ℕ) (room : List ℕ) → ((told : Held) → given ≡ fetch.Held told → ⊥) → s ≡ with_given s position given room
nothing-given (fetch.Held told) s position room none = absurd (none told refl)
nothing-given fetch.Nothing s position room none = refl
nothing-given fetch.Lost s position room none = refl
nothing-given fetch.Down s position room none = refl
nothing-given fetch.DiskFault s position room none = refl

pub returns-in-Held-clause-asked : goal.returns-in-Held-clause-asked
returns-in-Held-clause-asked g c =
    let l = c.args.listed.now in
    let given = c.fetch-answer.result in
    let e = c.fetch-answer.ensures in
    has-one c.args.store.now c.fetch-answer.new.self (fetch_event Admin c.args.node l.key c.args.position l.published.stamp given)
    ((c.args.node, l.key, c.args.position, l.published.stamp, given, refl), tt) (e.onward c.args.position)
    (λ w next. IsRecordAsked (g.S.ScrubbedStore.gives c.args.store.now) l c.args.position c.args.node w next c.args.judge.now.scrub c.add.new.self.scrub)
    (λ h. record {
      given = given;
      before = c.deref_mut.result.now;
      room = c.fetch-answer.new.room;
      fetched = e.fetched c.args.position h;
      read = e.read;
      records = first_of (search rules, grind (arith, common_steps));
    })

pub returns-in_default : goal.returns-in_default
returns-in_default g c =
    let l = c.args.listed.now in
    let given = c.fetch-answer.result in
    let e = c.fetch-answer.ensures in
    record {
      judge = refl;
      asked = has-one c.args.store.now c.fetch-answer.new.self (fetch_event Admin c.args.node l.key c.args.position l.published.stamp given)
          ((c.args.node, l.key, c.args.position, l.published.stamp, given, refl), tt) (e.onward c.args.position)
          (λ w next. IsRecordAsked (g.S.ScrubbedStore.gives c.args.store.now) l c.args.position c.args.node w next c.args.judge.now.scrub c.args.judge.now.scrub)
          (λ h. record {
            given = given;
            before = c.deref_mut.result.now;
            room = c.fetch-answer.new.room;
            fetched = e.fetched c.args.position h;
            read = e.read;
            records = nothing-given given c.args.judge.now.scrub c.args.position c.fetch-answer.new.room c.in_default.not-Held;
          });
    }
