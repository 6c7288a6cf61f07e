use Rattle.std.proofs.Common.{◌≡◌, []}
use Rattle.std.specs.FinMap as maps
use Rattle.rz_scrub_report.specs.Stores.{HasAsked}
use Rattle.rz_scrub_report.proofs.Walked.{IsSoFar, after_count}
use Rattle.rz_scrub_report.proofs.scrubbing.scrub.Given as goal

abbrev pub invariant-blocks-2 : goal.invariant-blocks-2
invariant-blocks-2 g l = record {
  judge : l.judge.layout ≡ l.layout;
  layout : l.layout ≡ (g.S.ScrubbedStore.described l.fn.store).layout;
  told : HasAsked g.S.ScrubbedStore.is_open g.S.ScrubbedStore.described g.S.ScrubbedStore.gives g.S.ScrubbedStore.state g.S.ScrubbedStore.counts g.S.ScrubbedStore.only_asked l.fn.store l.store
      (λ w mid. IsSoFar (g.S.ScrubbedStore.described l.fn.store).layout (g.S.ScrubbedStore.gives l.fn.store) w l.text.items l.after mid);
}

abbrev pub decreases-blocks-2 : goal.decreases-blocks-2
decreases-blocks-2 g l = after_count l.after (maps.entries (g.S.ScrubbedStore.state l.fn.store []).export.blocks)
