-- Which calls the export takes, by the log.
use Rattle.std.proofs.Common.{◌≡◌, ℕ, Bool, true, false, not, ◌==◌, ◌||◌, ◌≤◌, ◌+◌, nat_le, List, [], ◌∷◌, length, map, Option, Some, None, is_some, cond, sym, refl, ap, ◌∙◌, subst, inl, inr, arith}
use Rattle.std.specs.Option.{option_map_or}
use Rattle.std.specs.List.{list_any}
use Rattle.std.specs.FinMap as maps
use Rattle.std.proofs.lemmas.Bool.Decides.{nat_tests}
use Rattle.std.proofs.lemmas.Bool.{and_from, or_left, or_right, eq-eqb}
use Rattle.mj_angles.specs.Layout.{block_bytes_of}
use Rattle.rz_events.specs.Volume.{Volume, nodes_of}
use Rattle.rz_events.specs.Events.{by_of, word_of, same_actor}
use Rattle.rz_events.specs.declared.keys.Key.{Key}
use Rattle.rz_events.specs.declared.files.NodeSpec.{NodeSpec}
use Rattle.rz_events.specs.declared.export.Call.TheVariants as call
use Rattle.rz_events.specs.declared.events.Word.TheVariants.{Export, Node}
use Rattle.rz_events.specs.declared.events.Event.{Event}
use Rattle.rz_events.specs.declared.events.Event.TheVariants as e
use Rattle.rz_node_model.specs.Versions.{Stands}
use Rattle.rz_export_model.specs.Tree.{file_of}
use Rattle.rz_export_model.specs.Export.{Export as State, Block, is_mask, is_drawn, is_ready, after_enroll, draws}
use Rattle.rz_core.specs.History.{Facts, Begun, Has, facts, wrote, of_word, length_in}
use Rattle.rz_core.specs.ExportWord.{is_live, latest, last_drawn, export_of}
use Rattle.rz_core.specs.NodeRows.{IsNodeOf}
use Rattle.rz_core.specs.Legal.{HasWord, IsLegalInRuns}
use Rattle.rz_core.proofs.Stamps.{wrote-cases, begun_by-is, drawn, positive, begun-latest}
use Rattle.rz_core.proofs.NodeLaws.{filter-has}
use Rattle.rz_core.proofs.EnrollLaws.{export-rows}
use Rattle.rz_core.proofs.BlockTies.{ties}
use Rattle.rz_core.proofs.ExportCalls.{Before, enrolment}
use Rattle.rz_core.proofs.ExportLooks.{named}
use Rattle.rz_core.proofs.Naming.{naming}
use Rattle.rz_log_laws.specs.Calls.{IsUsable}

enroll-volume : (s : State) (node loss : ℕ) → (after_enroll s node loss).volume ≡ s.volume
enroll-volume s node loss = elim (draws s loss (maps.get s.enrolled node)) as (λ b. (cond b (record s { enrolled = maps.insert s.enrolled node (record { loss = loss; fence = s.last + 1 }); last = s.last + 1 }) s).volume ≡ s.volume) [ true ↦ refl | false ↦ refl ]

-- the volume of the export never changes
pub same-volume : (v : Volume) (f : Facts) (w : List Event) → (export_of v f w).volume ≡ v
same-volume v f [] = refl
same-volume v f (e.Meta by c reply ∷ w) = same-volume v f w
same-volume v f (e.Begin by key stamp base text ∷ w) = same-volume v f w
same-volume v f (e.Publish by key stamp mask None ∷ w) = same-volume v f w
same-volume v f (e.Enroll by node loss fence ∷ w) = enroll-volume (export_of v f w) node loss ∙ same-volume v f w
same-volume v f (x ∷ w) = same-volume v f w

-- each begun text has at most a block's bytes
short : (v : Volume) (h : List Event) → IsLegalInRuns v h → (s : ℕ) (b : Begun) → wrote h s ≡ Some b → length b.text ≤ block_bytes_of v.layout
short v [] legal s b k = cc
short v (e.Begin by at stamp base text ∷ h) legal s b k =
    elim (wrote-cases (e.Begin by at stamp base text) h s b k) [
      | inl old ↦ short v h legal.0 s b old
      | inr new ↦ (let same = begun_by-is s (e.Begin by at stamp base text) b new in let t : text ≡ b.text = cc in subst (λ (l : List ℕ). length l ≤ block_bytes_of v.layout) t legal.1.row.short)
    ]
short v (x ∷ h) legal s b k = elim (wrote-cases x h s b k) [ inl old ↦ short v h legal.0 s b old | inr new ↦ cc ]

has-block : (o : Option Block) → 1 ≤ option_map_or (λ (b : Block). b.latest) o 0 → is_some o ≡ true
has-block None few = absurd (omega arith)
has-block (Some b) few = refl

ready : (t u : Bool) → (t ≡ true → u ≡ true) → (not t || u) ≡ true
ready true u h = h refl
ready false u h = refl

le-true : (a b : ℕ) → a ≤ b → nat_le a b ≡ true
le-true a b h = grind (arith, nat_tests, h)

-- a node whose event stands in the log is the volume's
probed-there : (v : Volume) (h : List Event) → IsLegalInRuns v h → (x : Event) (n : ℕ) → word_of x ≡ Node n → Has h x → IsNodeOf v n
probed-there v [] legal x n is has = absurd has
probed-there v (y ∷ h) legal x n is (inl same) = subst (HasWord v) (ap word_of same ∙ is) legal.1.word
probed-there v (y ∷ h) legal x n is (inr has) = probed-there v h legal.0 x n is has

any-node : (node : ℕ) (specs : List NodeSpec) → Stands node (map (λ (spec : NodeSpec). spec.sid) specs) → list_any (λ n. n.sid == node) specs ≡ true
any-node node [] stands = absurd stands
any-node node (spec ∷ specs) (inl same) = or_left (spec.sid == node) (list_any (λ n. n.sid == node) specs) (eq-eqb spec.sid node same)
any-node node (spec ∷ specs) (inr stands) = or_right (spec.sid == node) (list_any (λ n. n.sid == node) specs) (any-node node specs stands)

pub usable : (v : Volume) → IsUsable v
usable v h by s (call.Tree c) legal tied room p = refl
usable v h by s (call.Begin key text) legal tied room p =
    let vol : s.volume ≡ v = ap (λ (t : State). t.volume) tied ∙ same-volume v (facts h) (of_word Export h) in
    le-true (length text) (block_bytes_of s.volume.layout) (subst (λ (z : Volume). length text ≤ block_bytes_of z.layout) (sym vol) p)
usable v h by s (call.Publish key stamp mask size) legal tied room p =
    let w = of_word Export h in
    let b : Before v h s = record { legal = legal; tied = tied; room = room } in
    let vol : s.volume ≡ v = ap (λ (t : State). t.volume) tied ∙ same-volume v (facts h) w in
    let begun = p.0.writer.0 in let found = p.0.writer.1.found in
    let quorum : is_mask s.volume.layout mask ≡ true = subst (λ (z : Volume). is_mask z.layout mask ≡ true) (sym vol) p.0.quorum in
    let fits2 : size ≤ block_bytes_of s.volume.layout = subst (λ (n : ℕ). n ≤ block_bytes_of s.volume.layout) (sym (p.1 ∙ ap length_in found))
    (subst (λ (z : Volume). length begun.text ≤ block_bytes_of z.layout) (sym vol) (short v h legal stamp begun found)) in
    let last : s.last ≡ last_drawn w = (enrolment v h s b).last in
    let low : 1 ≤ stamp = positive v h legal stamp begun found in
    let high : stamp ≤ s.last = subst (λ (n : ℕ). stamp ≤ n) (sym last) (drawn v h legal stamp begun found) in
    let isdrawn : is_drawn s stamp ≡ true = and_from _ _ (le-true 1 stamp low) (le-true stamp s.last high) in
    let there : is_some (file_of s.tree key.fid) ≡ true → is_some (maps.get s.blocks key) ≡ true = (λ live.
    let l : is_live w key.fid ≡ true = sym ((named v (naming v) h s b).live key.fid) ∙ live in
    let t = ties v (facts h) w (export-rows v h legal) room key l in
    let t2 : option_map_or (λ (z : Block). z.latest) (maps.get s.blocks key) 0 ≡ latest w key = subst (λ (z : State). option_map_or (λ (y : Block). y.latest) (maps.get z.blocks key) 0 ≡ latest w key) (sym tied) t.begun in
    let top : stamp ≤ latest w key = subst (λ (k : Key). stamp ≤ latest w k) p.0.writer.1.key_is (begun-latest v h legal stamp begun found) in
    has-block (maps.get s.blocks key) (omega (arith, t2, top, low))) in
    let isready : is_ready s key ≡ true = ready (is_some (file_of s.tree key.fid)) (is_some (maps.get s.blocks key)) there in
    and_from _ _ (and_from _ _ (and_from _ _ quorum (le-true size (block_bytes_of s.volume.layout) fits2)) isdrawn) isready
usable v h by s (call.Look key) legal tied room p = refl
usable v h by s (call.Enroll node loss) legal tied room p =
    let vol : s.volume ≡ v = ap (λ (t : State). t.volume) tied ∙ same-volume v (facts h) (of_word Export h) in
    subst (λ (z : Volume). list_any (λ n. n.sid == node) (nodes_of z.clusters) ≡ true) (sym vol)
    (any-node node (nodes_of v.clusters) (probed-there v h legal (e.Probe by node (Some loss)) node refl (filter-has (λ y. same_actor by (by_of y)) h (e.Probe by node (Some loss)) p)))
usable v h by s (call.Next node after) legal tied room p = refl
usable v h by s (call.Recheck key) legal tied room p = refl
