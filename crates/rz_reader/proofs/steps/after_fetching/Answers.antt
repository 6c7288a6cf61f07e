use Rattle.std.proofs.Common.{◌≡◌, subst, sym}
use Rattle.rz_client_model.specs.declared.reading.Fetches.{Fetches}
use Rattle.rz_events.specs.declared.ends.Seen.TheVariants.{Missed}
use Rattle.rz_reader.specs.Inside.{IsFetching}
use Rattle.rz_reader.proofs.Positions.{seen-more}
use Rattle.rz_reader.proofs.steps.after_fetching.Goals as goal

pub returns-in-Fetched-clause-kept : goal.returns-in-Fetched-clause-kept
returns-in-Fetched-clause-kept c = λ pairs h.
    subst (λ (t : Fetches). IsFetching c.args.state.now.layout pairs t) (sym c.with_seen.ensures.value)
    (seen-more c.args.state.now.layout pairs c.args.fetches c.seen_of.result h c.with_seen.ensures.left c.with_seen.ensures.within)

pub returns-in-Missed-clause-kept : goal.returns-in-Missed-clause-kept
returns-in-Missed-clause-kept c = λ pairs h.
    subst (λ (t : Fetches). IsFetching c.args.state.now.layout pairs t) (sym c.with_seen-in-Missed.ensures.value)
    (seen-more c.args.state.now.layout pairs c.args.fetches Missed h c.with_seen-in-Missed.ensures.left c.with_seen-in-Missed.ensures.within)
