use Rattle.std.proofs.Common.{◌≡◌, ◌≤◌, ℕ, List, map, length, sym, ap, ◌∙◌, subst, nat_eq}
use Rattle.std.specs.List.{IsDistinct}
use Rattle.std.proofs.lemmas.List.{length-map}
use Rattle.logbook.specs.Pages.{Book}
use Rattle.rz_events.specs.declared.files.NodeSpec.{NodeSpec}
use Rattle.rz_events.specs.Volume.{Cluster, Volume, nodes_of}
use Rattle.rz_chronicle.specs.Keys.{sids_of}
use Rattle.rz_chronicle.specs.Kinds.{volume_in}
use Rattle.rz_chronicle.specs.Rules.{AreBookWords}
use Rattle.rz_chronicle.specs.Dealing.{AreFresh}
use Rattle.rz_chronicle.proofs.Trades.{kept_keyless}
use Rattle.rz_chronicle.proofs.Numbers.{fits-first}
use Rattle.rz_chronicle.proofs.Rows.{kept-first}
use Rattle.rz_chronicle.proofs.start.NewBook.after.Goals as goal

pub open_row-seen-requires : goal.open_row-seen-requires
open_row-seen-requires g c = (
  kept-first c.key_count-count.result c.key_count-count.ensures,
  (λ xs. kept_keyless c.begin-start.result.0.names xs),
  c.begin-start.ensures.1,
)

pub invariant_of-result-clause-long : goal.invariant_of-result-clause-long
invariant_of-result-clause-long g c =
    (c.in_ok-words.ensures c.open_row-seen.result.0.book (subst (λ (b : Book). AreFresh b c.in_ok-pens.pens.items) c.open_row-seen.ensures.2 c.in_ok-pens.ensures.1)).0

pub invariant_of-result-clause-are : goal.invariant_of-result-clause-are
invariant_of-result-clause-are g c =
    subst (λ (ns : List ℕ). AreBookWords c.open_row-seen.result.0.book ns c.in_ok-words.words.items) c.as_slice-2.ensures.value
    (c.in_ok-words.ensures c.open_row-seen.result.0.book (subst (λ (b : Book). AreFresh b c.in_ok-pens.pens.items) c.open_row-seen.ensures.2 c.in_ok-pens.ensures.1)).1

pub invariant_of-result-clause-few : goal.invariant_of-result-clause-few
invariant_of-result-clause-few g c =
    let sids : c.in_ok-nodes.nodes.items ≡ sids_of c.args.volume.now = c.in_ok-nodes.ensures ∙ (ap (λ (cs : List Cluster). map (λ (n : NodeSpec). n.sid) (nodes_of cs)) c.as_slice.ensures.value ∙ ap (λ (v : Volume). sids_of v) c.volume.view_is) in
    subst (λ (n : ℕ). n ≤ 256) (sym (ap length sids ∙ length-map (nodes_of c.args.volume.now.clusters) (λ (n : NodeSpec). n.sid))) c.node_count-few.ensures.rules.few_nodes

pub invariant_of-result-clause-distinct : goal.invariant_of-result-clause-distinct
invariant_of-result-clause-distinct g c =
    let sids : c.in_ok-nodes.nodes.items ≡ sids_of c.args.volume.now = c.in_ok-nodes.ensures ∙ (ap (λ (cs : List Cluster). map (λ (n : NodeSpec). n.sid) (nodes_of cs)) c.as_slice.ensures.value ∙ ap (λ (v : Volume). sids_of v) c.volume.view_is) in
    subst (IsDistinct nat_eq) (sym sids) c.node_count-few.ensures.rules.distinct_sids

pub invariant_of-result-clause-numbers : goal.invariant_of-result-clause-numbers
invariant_of-result-clause-numbers g c =
    let sids : c.in_ok-nodes.nodes.items ≡ sids_of c.args.volume.now = c.in_ok-nodes.ensures ∙ (ap (λ (cs : List Cluster). map (λ (n : NodeSpec). n.sid) (nodes_of cs)) c.as_slice.ensures.value ∙ ap (λ (v : Volume). sids_of v) c.volume.view_is) in
    let honest = g.B.Beginning.honest in
    let earlier = g.B.Beginning.earlier in
    sids ∙ sym (ap (λ (k : List ℕ). sids_of (volume_in k)) c.begin-start.ensures.2 ∙ ap sids_of (c.read_back_after.ensures honest c.args.volume.now earlier).1)

pub begin-start-requires : goal.begin-start-requires
begin-start-requires g c = fits-first g.B.Beginning.honest c.args.volume.now g.B.Beginning.earlier c.requires
