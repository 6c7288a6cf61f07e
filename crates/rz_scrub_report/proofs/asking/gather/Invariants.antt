use Rattle.std.proofs.Common.{ℕ, ◌≡◌, ◌≤◌, None, drop}
use Rattle.rz_scrub.specs.Records.{Records, bins_at, no_records}
use Rattle.rz_scrub_report.specs.Asks.{AreAsked}
use Rattle.rz_scrub_report.specs.Stores.{HasAsked, State}
use Rattle.rz_scrub_report.proofs.asking.gather.Given as goal

abbrev pub invariant-loop-i : goal.invariant-loop-i
invariant-loop-i g l = record {
  judge : l.judge.layout ≡ l.fn.judge.layout;
  bare : (p : ℕ) → l.i ≤ p → bins_at l.judge.scrub p ≡ None;
  asked : HasAsked g.S.ScrubbedStore.is_open g.S.ScrubbedStore.described g.S.ScrubbedStore.gives g.S.ScrubbedStore.state g.S.ScrubbedStore.counts g.S.ScrubbedStore.only_asked l.fn.store l.store
      (λ w mid. (next : State) (t : Records) → AreAsked (g.S.ScrubbedStore.gives l.fn.store) l.listed l.i (drop l.i l.nodes) mid next l.judge.scrub t
      → AreAsked (g.S.ScrubbedStore.gives l.fn.store) l.listed 0 l.nodes w next (no_records l.fn.judge.layout) t);
}
