-- The answers that a machine takes.
use Rattle.std.proofs.Common.{◌≡◌, ℕ, ◌<◌, ◌≤◌, List, refl, sym, ap, subst}
use Rattle.mj_angles.specs.declared.layout.Layout.{Layout}
use Rattle.mj_angles.specs.Layout.{block_bytes_of}
use Rattle.rz_events.specs.Volume.{Volume}
use Rattle.rz_events.specs.declared.keys.Key.{Key}
use Rattle.rz_events.specs.declared.records.Head.{Head}
use Rattle.rz_events.specs.declared.records.Held.{Held}
use Rattle.rz_events.specs.declared.nodes.FetchAnswer.TheVariants as fetch
use Rattle.rz_events.specs.declared.nodes.NodeAsk.{NodeAsk}
use Rattle.rz_events.specs.declared.nodes.NodeAsk.TheVariants as ask
use Rattle.rz_events.specs.declared.nodes.NodeAnswer.{NodeAnswer}
use Rattle.rz_events.specs.declared.nodes.NodeAnswer.TheVariants as answer
use Rattle.rz_node_model.specs.Answers.{IsNodeAnswer}
use Rattle.rz_node_model.specs.States.{NodeState}
use Rattle.rz_client_model.specs.Read.{IsFetched}
use Rattle.rz_operation_model.specs.Ask.{Ask}
use Rattle.rz_operation.specs.Answers.{IsAnswer, IsAnswerTo}
use Rattle.rz_core.specs.History.{Facts}
use Rattle.rz_play_laws.specs.Own.{IsOfActor}
use Rattle.rz_node_laws.specs.Laws.{IsReadBack}
use Rattle.rz_block_laws.specs.Laws.{IsTakenLaw}
use Rattle.rz_block_laws.proofs.Fetching.{of-record}

module _ (v : Volume) (f : Facts) (n : ℕ) (before bins : List ℕ) where
  -- a record of a write has a base below its stamp, and a length that fits a block
  fetched : (key : Key) (r : Held) → IsReadBack v f n key r before bins → IsFetched v.layout (fetch.Held r)
  fetched key r back =
      let it = of-record v n back.head.stamp (f.wrote back.head.stamp) (f.places back.head.key.fid) back.head back.bins back.it in
      let layout : back.head.layout ≡ v.layout = ap (λ (h : Head). h.layout) (sym it.head_is) in
      let told = sym back.told_is in (
        subst (λ (q : Held). q.base < q.stamp) told back.valid.older,
        subst (λ (q : Held). q.length ≤ block_bytes_of v.layout) told (subst (λ (y : Layout). back.head.length ≤ block_bytes_of y) layout back.valid.fits),
      )

  takes : (cells : ℕ) (s : NodeState) (question : NodeAsk) (given : NodeAnswer) → IsOfActor question → IsNodeAnswer cells s question given
      → ((r : Held) → given ≡ answer.Fetch (fetch.Held r) → (key : Key) × IsReadBack v f n key r before bins) → IsAnswerTo v.layout question given
  takes cells s (ask.Keep head) (answer.Keep a) actor is back = tt
  takes cells s (ask.Fetch key position stamp) (answer.Fetch (fetch.Held r)) actor is back = (let b = back r refl in fetched b.0 r b.1)
  takes cells s (ask.Fetch key position stamp) (answer.Fetch _) actor is back = tt
  takes cells s (ask.Refill fence head) (answer.Refill a) actor is back = tt
  takes cells s (ask.Drop fid) (answer.Drop a) actor is back = tt
  takes cells s ask.Probe (answer.Probe a) actor is back = tt
  takes cells s (ask.Replace loss fence) (answer.Replace a) actor is back = tt
  takes cells s ask.Stop given actor is back = absurd actor
  takes cells s ask.Start given actor is back = absurd actor
  takes cells s ask.Lose given actor is back = absurd actor
  takes cells s question given actor is back = absurd is

pub taken-law : (v : Volume) → IsTakenLaw v
taken-law v f m n cells s question given before bins layout asked actor is back =
    subst (λ (a : Ask). IsAnswer m.layout a given) (sym asked) (subst (λ (y : Layout). IsAnswerTo y question given) (sym layout) (takes v f n before bins cells s question given actor is back))
