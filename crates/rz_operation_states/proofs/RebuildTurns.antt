-- A turn of a rebuild is one of its operation.
use Rattle.std.proofs.Common.{◌≡◌, ℕ, true, List, Bool, Option, Some, None, ap, subst, sym, ◌∙◌, refl}
use Rattle.mj_inverse.specs.Fits.{Pair}
use Rattle.mj_angles.specs.declared.layout.Layout.{Layout}
use Rattle.rz_words.specs.Grid.{Grid}
use Rattle.rz_events.specs.declared.export.Reply.{Reply}
use Rattle.rz_events.specs.declared.export.Reply.TheVariants as reply
use Rattle.rz_events.specs.declared.nodes.FetchAnswer.{FetchAnswer}
use Rattle.rz_events.specs.declared.nodes.NodeAnswer.{NodeAnswer}
use Rattle.rz_events.specs.declared.nodes.NodeAnswer.TheVariants as node
use Rattle.rz_events.specs.declared.machines.RebuildAnswer.{RebuildAnswer}
use Rattle.rz_events.specs.declared.machines.RebuildAnswer.TheVariants as rebuilds
use Rattle.rz_operation_model.specs.Rebuild.{Rebuild, Going, Ended, rebuild_told}
use Rattle.rz_operation_model.specs.Steps.{Told, Replied, Answered, Missed, Noted, told, in_rebuild}
use Rattle.rz_reader.specs.Machine.{AreFitting}
use Rattle.rz_rebuild.specs.Machine.{Machine as Rebuilder, IsRebuildAfter as RebuildGoes, FitsIfEnough as IsRebuildAnswered, told_in, pairs_in as rebuild_pairs, IsBlockIn as IsRebuildBlock, pairs_fetched as rebuild_fetched}
use Rattle.rz_operation_states.specs.declared.stage.OperationState.{OperationState}
use Rattle.rz_operation_states.specs.declared.stage.OperationState.TheVariants as stage
use Rattle.rz_operation_states.specs.Told.{rebuild_reply, rebuild_answer}
use Rattle.rz_operation_states.specs.Answers.{pairs_in, pairs_fetched, IsBlockIn, IsWorkAfter, FitsIfEnough}
use Rattle.rz_operation_states.specs.Inside.{IsRebuildGoing, IsRebuildState, machine_of}

-- Pairs and block are those of the rebuild.

same-pairs : (n : ℕ) (state : Rebuild) (had : List Pair) → rebuild_pairs state had ≡ pairs_in (in_rebuild n state) had
same-pairs n (Going s) had = refl
same-pairs n (Ended end) had = refl

same-block : (layout : Layout) (n : ℕ) (state : Rebuild) (had : List Pair) (block : Option Grid) → IsRebuildBlock layout had state block →
    IsBlockIn layout had (in_rebuild n state) block
same-block layout n (Going s) had block h = h
same-block layout n (Ended end) had block h = h

same-fetched : (layout : Layout) (n : ℕ) (state : Rebuild) (pairs : List Pair) (a : FetchAnswer) (bins : List ℕ) →
    rebuild_fetched layout state pairs a bins ≡ pairs_fetched layout (in_rebuild n state) pairs a bins
same-fetched layout n (Going s) pairs a bins = refl
same-fetched layout n (Ended end) pairs a bins = refl

-- What a rebuild is told is what its operation is told.

abbrev given : Option RebuildAnswer → RebuildAnswer
given None = rebuilds.Noted
given (Some a) = a

pub replied : (layout : Layout) (n : ℕ) (state : Rebuild) (r : Reply) (a : RebuildAnswer) → IsRebuildGoing state → rebuild_reply r ≡ Some a →
    told layout (in_rebuild n state) (Replied r) ≡ in_rebuild n (told_in layout true state a)
replied layout n (Going s) (reply.Fence fence) a going is = ap (λ x. in_rebuild n (rebuild_told layout true s x)) (ap given is)
replied layout n (Going s) (reply.Denied why) a going is = ap (λ x. in_rebuild n (rebuild_told layout true s x)) (ap given is)
replied layout n (Going s) (reply.Listed l) a going is = ap (λ x. in_rebuild n (rebuild_told layout true s x)) (ap given is)
replied layout n (Going s) (reply.Looked p) a going is = ap (λ x. in_rebuild n (rebuild_told layout true s x)) (ap given is)
replied layout n (Going s) (_) a going is = cc
replied layout n (Ended end) r a going is = absurd going

-- none of these answers is a record
pub no-record : (b b' : Rebuilder) (r : Reply) (a : RebuildAnswer) (bins : List ℕ) → rebuild_reply r ≡ Some a → IsRebuildAnswered b a bins b' →
    RebuildGoes b b.pairs (told_in b.layout true b.state a) b'
no-record b b' (reply.Fence fence) a bins is h =
    subst (λ x. IsRebuildAnswered b x bins b' → RebuildGoes b b.pairs (told_in b.layout true b.state x) b') (ap given is) (λ g. g) h
no-record b b' (reply.Denied why) a bins is h =
    subst (λ x. IsRebuildAnswered b x bins b' → RebuildGoes b b.pairs (told_in b.layout true b.state x) b') (ap given is) (λ g. g) h
no-record b b' (reply.Listed l) a bins is h =
    subst (λ x. IsRebuildAnswered b x bins b' → RebuildGoes b b.pairs (told_in b.layout true b.state x) b') (ap given is) (λ g. g) h
no-record b b' (reply.Looked p) a bins is h =
    subst (λ x. IsRebuildAnswered b x bins b' → RebuildGoes b b.pairs (told_in b.layout true b.state x) b') (ap given is) (λ g. g) h
no-record b b' (_) a bins is h = cc

pub missed : (layout : Layout) (n : ℕ) (state : Rebuild) → IsRebuildGoing state →
    told layout (in_rebuild n state) Missed ≡ in_rebuild n (told_in layout true state rebuilds.Missed)
missed layout n (Going s) going = refl
missed layout n (Ended end) going = absurd going

pub noted : (layout : Layout) (n : ℕ) (state : Rebuild) (text : List ℕ) → IsRebuildGoing state →
    told layout (in_rebuild n state) (Noted text) ≡ in_rebuild n (told_in layout true state rebuilds.Noted)
noted layout n (Going s) text going = refl
noted layout n (Ended end) text going = absurd going

-- How the operation goes on.

pub settled-goes : (n : ℕ) (b b' : Rebuilder) (had : List Pair) (t : Told) (next : Rebuild) (new : OperationState) → RebuildGoes b had next b' →
    told b.layout (in_rebuild n b.state) t ≡ in_rebuild n next → IsRebuildState n b' b'.state new →
    IsWorkAfter (machine_of b.layout (stage.Rebuilding n b)) had t (machine_of b.layout new)
settled-goes n b b' had t next new goes same is = go b'.state refl is
  where
    go : (state : Rebuild) → b'.state ≡ state → IsRebuildState n b' state new → IsWorkAfter (machine_of b.layout (stage.Rebuilding n b)) had t (machine_of b.layout new)
    go (Going s) at here =
        subst (λ (x : OperationState). IsWorkAfter (machine_of b.layout (stage.Rebuilding n b)) had t (machine_of b.layout x)) (sym here)
        (record {
          layout = refl;
          work = ap (in_rebuild n) goes.state ∙ sym same;
          pairs = goes.pairs ∙ same-pairs n b'.state had;
          block = same-block b.layout n b'.state had b'.block goes.block;
        })
    go (Ended end) at here =
        subst (λ (x : OperationState). IsWorkAfter (machine_of b.layout (stage.Rebuilding n b)) had t (machine_of b.layout x)) (sym here)
        (record {
          layout = refl;
          work = ap (in_rebuild n) (sym at ∙ goes.state) ∙ sym same;
          pairs = refl;
          block = refl;
        })

module _ (n : ℕ) (b b' : Rebuilder) (bins : List ℕ) (new : OperationState) (going : IsRebuildGoing b.state) (is : IsRebuildState n b' b'.state new) where
  -- an answer of a node that tells the rebuild `a`
  goes-on : (answer : NodeAnswer) (a : RebuildAnswer) → told b.layout (in_rebuild n b.state) (Answered true answer) ≡ in_rebuild n (told_in b.layout true b.state a) →
      RebuildGoes b b.pairs (told_in b.layout true b.state a) b' →
      IsWorkAfter (machine_of b.layout (stage.Rebuilding n b)) b.pairs (Answered true answer) (machine_of b.layout new)
  goes-on answer a same goes = settled-goes n b b' b.pairs (Answered true answer) (told_in b.layout true b.state a) new goes same is

  told-probe : (state : Rebuild) (loss : Option ℕ) → IsRebuildGoing state →
      told b.layout (in_rebuild n state) (Answered true (node.Probe loss)) ≡ in_rebuild n (told_in b.layout true state (rebuilds.Probed loss))
  told-probe (Going s) loss g = refl
  told-probe (Ended end) loss g = absurd g

  told-replace : (state : Rebuild) (a : _) → IsRebuildGoing state →
      told b.layout (in_rebuild n state) (Answered true (node.Replace a)) ≡ in_rebuild n (told_in b.layout true state (rebuilds.Replaced a))
  told-replace (Going s) a g = refl
  told-replace (Ended end) a g = absurd g

  told-refill : (state : Rebuild) (a : _) → IsRebuildGoing state →
      told b.layout (in_rebuild n state) (Answered true (node.Refill a)) ≡ in_rebuild n (told_in b.layout true state (rebuilds.Refilled a))
  told-refill (Going s) a g = refl
  told-refill (Ended end) a g = absurd g

  told-fetch : (state : Rebuild) (fits : Bool) (a : FetchAnswer) → IsRebuildGoing state →
      told b.layout (in_rebuild n state) (Answered fits (node.Fetch a)) ≡ in_rebuild n (told_in b.layout fits state (rebuilds.Fetched a))
  told-fetch (Going s) fits a g = refl
  told-fetch (Ended end) fits a g = absurd g

  fetched : (a : FetchAnswer) → IsRebuildAnswered b (rebuilds.Fetched a) bins b' →
      FitsIfEnough (machine_of b.layout (stage.Rebuilding n b)) (node.Fetch a) bins (machine_of b.layout new)
  fetched a h =
      subst (λ (ps : List Pair). (fits : Bool) × AreFitting b.layout ps fits
      × IsWorkAfter (machine_of b.layout (stage.Rebuilding n b)) ps (Answered fits (node.Fetch a)) (machine_of b.layout new))
      (same-fetched b.layout n b.state b.pairs a bins)
      (h.0, h.1, settled-goes n b b' _ (Answered h.0 (node.Fetch a)) _ new h.2 (told-fetch b.state h.0 a going) is)

  pub answered : (answer : NodeAnswer) (a : RebuildAnswer) → rebuild_answer answer ≡ Some a → IsRebuildAnswered b a bins b' →
      FitsIfEnough (machine_of b.layout (stage.Rebuilding n b)) answer bins (machine_of b.layout new)
  answered (node.Probe loss) a same h =
      goes-on (node.Probe loss) (rebuilds.Probed loss) (told-probe b.state loss going) (subst (λ x. IsRebuildAnswered b x bins b') (sym (ap given same)) h)
  answered (node.Replace r) a same h =
      goes-on (node.Replace r) (rebuilds.Replaced r) (told-replace b.state r going) (subst (λ x. IsRebuildAnswered b x bins b') (sym (ap given same)) h)
  answered (node.Refill r) a same h =
      goes-on (node.Refill r) (rebuilds.Refilled r) (told-refill b.state r going) (subst (λ x. IsRebuildAnswered b x bins b') (sym (ap given same)) h)
  answered (node.Fetch f) a same h = fetched f (subst (λ x. IsRebuildAnswered b x bins b') (sym (ap given same)) h)
  answered (_) a same h = cc
