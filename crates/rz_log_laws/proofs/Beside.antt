-- What stays true when only others act.
use Rattle.std.proofs.Common.{◌≡◌, ℕ, List, [], ◌∷◌, ◌++◌, map, Option, Some, None, sym, refl, ap, ap₂, ◌∙◌, subst}
use Rattle.std.specs.List.{AllByRecursion}
use Rattle.std.specs.Option.{option_map}
use Rattle.std.specs.FinMap as maps
use Rattle.rz_events.specs.Keys.{key_cmp}
use Rattle.rz_node_model.specs.Records.{listed}
use Rattle.rz_events.specs.Volume.{Volume}
use Rattle.rz_events.specs.declared.keys.Actor.{Actor}
use Rattle.rz_events.specs.declared.records.Head.{Head}
use Rattle.rz_events.specs.declared.records.Held.{Held}
use Rattle.rz_events.specs.declared.records.Change.{Change}
use Rattle.rz_events.specs.declared.records.Change.TheVariants as change
use Rattle.rz_events.specs.declared.nodes.NodeAsk.{NodeAsk}
use Rattle.rz_events.specs.declared.nodes.NodeAsk.TheVariants as ask
use Rattle.rz_events.specs.declared.export.Call.{Call}
use Rattle.rz_events.specs.declared.export.Call.TheVariants as call
use Rattle.rz_events.specs.declared.events.Word.TheVariants.{Export, Node}
use Rattle.rz_events.specs.declared.events.Event.{Event}
use Rattle.rz_events.specs.declared.events.Event.TheVariants as e
use Rattle.rz_events.specs.Events.{by_of, word_of, same_actor, same_word}
use Rattle.rz_node_model.specs.declared.pending.Pending.TheVariants as pending
use Rattle.rz_node_model.specs.States.{NodeState}
use Rattle.rz_core.specs.History.{Facts, facts, of_word, of_actor, length_in, base_in}
use Rattle.rz_core.specs.NodeWord.{held, undecided}
use Rattle.rz_core.specs.Own.{is_next}
use Rattle.rz_core.specs.Tied.{record_in, pending_in, IsNode, IsExport, IsOfWrite, IsProperAsk, IsProperCall}
use Rattle.rz_core.proofs.Extends.{Extends, IsKnown, Knows, KnowsChange, extends-more, place-extends, held-extends, held-known, undecided-known, export-extends, has-all, last-has}
use Rattle.rz_core.proofs.Locality.{all-filter, legal-knows}
use Rattle.rz_core.proofs.NodeTies.{step, idle}
use Rattle.rz_log_laws.specs.Beside.{IsBeginning, IsNodeKept, IsExportKept, IsAskKept, IsCallKept, IsArming, IsStopping, IsStarting}

same-wrote : (f g : Facts) → Extends f g → (s : ℕ) → IsKnown f s → f.wrote s ≡ g.wrote s
same-wrote f g ext s k = k.1 ∙ sym (ext.wrote s k.0 k.1)

same-record : (f g : Facts) → Extends f g → (s : ℕ) → IsKnown f s → record_in f s ≡ record_in g s
same-record f g ext s k = let w = same-wrote f g ext s k in
    ap₂ (λ l b. let r : Held = record { stamp = s; length = l; base = b } in r) (ap length_in w) (ap base_in w)

same-records : (f g : Facts) → Extends f g → (now : List ℕ) → AllByRecursion (IsKnown f) now → map (record_in f) now ≡ map (record_in g) now
same-records f g ext [] k = refl
same-records f g ext (s ∷ now) k = ap₂ (λ (r : Held) (rs : List Held). r ∷ rs) (same-record f g ext s k.0) (same-records f g ext now k.1)

same-pending : (f g : Facts) → Extends f g → (u : Option Change) → ((c : Change) → u ≡ Some c → KnowsChange f c) → option_map (pending_in f) u ≡ option_map (pending_in g) u
same-pending f g ext None k = refl
same-pending f g ext (Some c) k = ap Some (go c (k c refl))
  where
    go : (c : Change) → KnowsChange f c → pending_in f c ≡ pending_in g c
    go (change.Keep key s position) known = ap (pending.Keep key) (same-record f g ext s known)
    go (change.Refill fence key s position) known = ap (pending.Refill key) (same-record f g ext s known)
    go (change.Drop key s) known = refl

pub node-extends : (f g : Facts) → Extends f g → (w : List Event) (s : NodeState) → AllByRecursion (Knows f) w → IsNode f w s → IsNode g w s
node-extends f g ext w s known t = record {
  phase_is = t.phase_is;
  fence_is = t.fence_is;
  losses_is = t.losses_is;
  held_is = λ key. t.held_is key ∙ (same-records f g ext (held f w key) (held-known f w key known) ∙ ap (map (record_in g)) (sym (held-extends f g ext w key known)));
  whole = t.whole;
  undecided_is = t.undecided_is ∙ same-pending f g ext (undecided w) (undecided-known f w known);
}

ofwrite-extends : (f g : Facts) → Extends f g → (head : Head) → IsKnown f head.stamp → IsOfWrite f head → IsOfWrite g head
ofwrite-extends f g ext head k i = let w = same-wrote f g ext head.stamp k in (i.0 ∙ ap length_in w, i.1 ∙ ap base_in w)

pub ask-extends : (v : Volume) (f g : Facts) → Extends f g → (o : List Event) → AllByRecursion (Knows f) o → (by : Actor) (n : ℕ) (question : NodeAsk) → IsProperAsk v f o by n question → IsProperAsk v g o by n question
ask-extends v f g ext o known by n (ask.Keep head) p = let w = p.0.writer in (
  record {
    writer = (w.0, record { found = ext.wrote head.stamp w.0 w.1.found; by_is = w.1.by_is; key_is = w.1.key_is });
    place = place-extends f g ext head.key.fid head.position n p.0.place;
  },
  ofwrite-extends f g ext head (w.0, w.1.found) p.1,
)
ask-extends v f g ext o known by n (ask.Fetch key position stamp) p = place-extends f g ext key.fid position n p
ask-extends v f g ext o known by n (ask.Refill fence head) p =
    let r = p.0 in let next = r.next in let l = next.1 in
    let listing = next.2 in
    let has = last-has is_next o (e.Next by next.0 listing.after.0 (Some l)) listing.after.1 in
    let k : IsKnown f l.published.stamp = has-all (Knows f) o (e.Next by next.0 listing.after.0 (Some l)) known has in
    let known-head : IsKnown f head.stamp = subst (IsKnown f) next.3 k in (
      record { replaced = r.replaced; next = r.next; enough = r.enough; place = place-extends f g ext head.key.fid head.position n r.place },
      ofwrite-extends f g ext head known-head p.1,
    )
ask-extends v f g ext o known by n (ask.Drop fid) p = p
ask-extends v f g ext o known by n ask.Probe p = p
ask-extends v f g ext o known by n ask.Stop p = p
ask-extends v f g ext o known by n ask.Start p = p
ask-extends v f g ext o known by n ask.Lose p = p
ask-extends v f g ext o known by n (ask.Replace loss fence) p = p

pub call-extends : (v : Volume) (f g : Facts) → Extends f g → (o : List Event) (by : Actor) (question : Call) → IsProperCall v f o by question → IsProperCall v g o by question
call-extends v f g ext o by (call.Tree c) p = p
call-extends v f g ext o by (call.Begin key text) p = p
call-extends v f g ext o by (call.Publish key stamp mask size) p = let w = p.0.writer in (
  record {
    writer = (w.0, record { found = ext.wrote stamp w.0 w.1.found; by_is = w.1.by_is; key_is = w.1.key_is });
    quorum = p.0.quorum;
    kept = λ at bit. (let k = p.0.kept at bit in (k.0, place-extends f g ext key.fid at k.0 k.1, k.2));
  },
  p.1 ∙ ap length_in (w.1.found ∙ sym (ext.wrote stamp w.0 w.1.found)),
)
call-extends v f g ext o by (call.Look key) p = p
call-extends v f g ext o by (call.Enroll node loss) p = p
call-extends v f g ext o by (call.Next node after) p = p
call-extends v f g ext o by (call.Recheck key) p = p

-- The beginning.

pub beginning : (v : Volume) → IsBeginning v
beginning v f = (
  record {
    phase_is = refl;
    fence_is = refl;
    losses_is = refl;
    held_is = λ key. ap listed (maps.get-empty {X = List Held} key_cmp key);
    whole = λ key q. (let z = maps.get-empty {X = List Held} key_cmp key in cc);
    undecided_is = refl;
  },
  refl,
)

-- Later logs.

pub node-kept : (v : Volume) → IsNodeKept v
node-kept v h more n s legal same tied =
    let known = all-filter (Knows (facts h)) (λ y. same_word (Node n) (word_of y)) h (legal-knows v h legal) in
    subst (λ w. IsNode (facts (more ++ h)) w s) (sym same)
    (node-extends (facts h) (facts (more ++ h)) (extends-more more h) (of_word (Node n) h) s known tied)

pub export-kept : (v : Volume) → IsExportKept v
export-kept v h more s legal same tied =
    let known = all-filter (Knows (facts h)) (λ y. same_word Export (word_of y)) h (legal-knows v h legal) in
    subst (λ w. IsExport v (facts (more ++ h)) w s) (sym same)
    (tied ∙ sym (export-extends v (facts h) (facts (more ++ h)) (extends-more more h) (of_word Export h) known))

pub ask-kept : (v : Volume) → IsAskKept v
ask-kept v h more by n question legal same proper =
    let known = all-filter (Knows (facts h)) (λ y. same_actor by (by_of y)) h (legal-knows v h legal) in
    subst (λ o. IsProperAsk v (facts (more ++ h)) o by n question) (sym same)
    (ask-extends v (facts h) (facts (more ++ h)) (extends-more more h) (of_actor by h) known by n question proper)

pub call-kept : (v : Volume) → IsCallKept v
call-kept v h more by question legal same proper =
    subst (λ o. IsProperCall v (facts (more ++ h)) o by question) (sym same)
    (call-extends v (facts h) (facts (more ++ h)) (extends-more more h) (of_actor by h) by question proper)

-- The administrator.

pub arming : (v : Volume) → IsArming v
arming v h n k pick s t =
    step v h n (e.Armed n k pick) s refl (record { begins = λ z. refl; makes = λ z. refl }) t.of_volume t.room tt
    (idle (facts h) (of_word (Node n) h) (e.Armed n k pick ∷ of_word (Node n) h) s refl refl refl (λ key. refl) refl t.tied)

pub stopping : (v : Volume) → IsStopping v
stopping v h run n s t up = record { room = t.room; word = t.of_volume; row = up }

pub starting : (v : Volume) → IsStarting v
starting v h run n s took t down pending = record { room = t.room; word = t.of_volume; row = record { down = down; pending = pending } }
