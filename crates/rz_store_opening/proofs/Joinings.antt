-- What was opened is ready for its locks.
use Rattle.std.proofs.Common.{ℕ, Bool, true, false, ◌≡◌, ◌&&◌, List, [], ◌∷◌, map, length, Option, Some, None, is_some, IsTrue, not, refl, sym, ◌∙◌, ap, subst, arith}
use Rattle.std.specs.Prelude.{unwrap_or}
use Rattle.std.specs.List.{AllByRecursion, AllZip, zip}
use Rattle.std.proofs.lemmas.List.{length-map}
use Rattle.mj_angles.specs.Layout.{bsize_of}
use Rattle.rz_disk.specs.Meter.{Meter}
use Rattle.rz_disk.specs.UnderFuse.{UnderFuse}
use Rattle.rz_events.specs.Volume.{Volume, nodes_of}
use Rattle.rz_events.specs.declared.files.NodeSpec.{NodeSpec}
use Rattle.rz_events.specs.declared.events.Event.{Event}
use Rattle.rz_events.specs.declared.events.Word.TheVariants.{Node}
use Rattle.rz_node_model.specs.States.{fresh}
use Rattle.rz_export_model.specs.Export.{Export as ExportState, fence_of}
use Rattle.rz_core.specs.NodeRows.{IsNodeOf}
use Rattle.rz_node_laws.specs.Images.{geometry_in}
use Rattle.rz_metadata.specs.Enrolled.{loss_of}
use Rattle.rz_metadata.specs.Stands.{export_in}
use Rattle.rz_nodes.specs.Arrived.{IsArrival, IsHere}
use Rattle.rz_nodes.specs.Formatted.{geometry_of}
use Rattle.rz_nodes.specs.declared.formatting.Server.{Server}
use Rattle.rz_nodes.specs.declared.arriving.KnownNode.{KnownNode}
use Rattle.rz_nodes.specs.declared.arriving.Arrival.{Arrival}
use Rattle.rz_nodes.specs.declared.arriving.Arrival.TheVariants as arrival
use Rattle.rz_restart_laws.specs.Earlier.{numbers}
use Rattle.rz_restart_laws.specs.Returns.{AreBack, replaced}
use Rattle.rz_chronicle.specs.Dealing.{new_word_token}
use Rattle.rz_chronicle.specs.Keys.{sids_of}
use Rattle.rz_chronicle.specs.Kinds.{goes_on, is_none, keeps_legal, volume_in, earlier_in}
use Rattle.rz_chronicle.specs.Rules.{WordTokenView}
use Rattle.rz_shared_locked.specs.LockedNodes.{IsAwayByLog, IsLogged}
use Rattle.rz_shared.specs.declared.seating.Arrived.{Arrived}
use Rattle.rz_shared.specs.declared.seating.Arrived.TheVariants as arrived
use Rattle.rz_shared.specs.Seating.{IsArrivedReady, IsNodeReady, unfused}
use Rattle.rz_shared.proofs.Readiness.{IsDescribed, described, word_token_of, word_tokens-are}
use Rattle.rz_store_opening.specs.Opened.{IsReadyLaw}
use Rattle.rz_store_opening.specs.Opening.{AreOpenedDisks, IsAfterPast, IsBackAt, IsOpenedOnSome, IsReopened, arrived_by, here_in, known_of, nodes_in}
use Rattle.rz_store_opening.specs.declared.disks.OpenedDisks.{OpenedDisks}

-- ---- how many they are

module _ {D : Type 0} (R : KnownNode × Option D → Arrival D → Type 0) where
  pub nodes-count : (known : List KnownNode) (disks : List (Option D)) (arrivals : List (Arrival D)) → length disks ≡ length known → AllZip R (zip known disks) arrivals → length (arrived_by known arrivals) ≡ length known
  nodes-count [] [] arrivals count all = refl
  nodes-count [] (d ∷ disks) arrivals count all = absurd (omega (arith, count))
  nodes-count (k ∷ known) [] arrivals count all = absurd (omega (arith, count))
  nodes-count (k ∷ known) (d ∷ disks) [] count all = absurd all
  nodes-count (k ∷ known) (d ∷ disks) (a ∷ arrivals) count all = (let rest = nodes-count known disks arrivals (omega (arith, count)) all.1 in omega (arith, rest))

  pub arrivals-count : (known : List KnownNode) (disks : List (Option D)) (arrivals : List (Arrival D)) → length disks ≡ length known → AllZip R (zip known disks) arrivals → length arrivals ≡ length known
  arrivals-count [] [] [] count all = refl
  arrivals-count [] [] (a ∷ arrivals) count all = absurd all
  arrivals-count [] (d ∷ disks) arrivals count all = absurd (omega (arith, count))
  arrivals-count (k ∷ known) [] arrivals count all = absurd (omega (arith, count))
  arrivals-count (k ∷ known) (d ∷ disks) [] count all = absurd all
  arrivals-count (k ∷ known) (d ∷ disks) (a ∷ arrivals) count all = (let rest = arrivals-count known disks arrivals (omega (arith, count)) all.1 in omega (arith, rest))

module _ {D : Type 0} (tells : Bool) (meter : D → Meter) (text : D → List ℕ) (image : D → List ℕ → Type 0) (v : Volume) (disks : List (Option D)) (o : OpenedDisks D) (opened : AreOpenedDisks tells meter text image v disks o) where
  abbrev known : List KnownNode
  known = known_of (export_in o.parts.metadata) (nodes_of v.clusters)

  as-many : length disks ≡ length known
  as-many = opened.count ∙ sym (length-map (nodes_of v.clusters) _)

  -- as many as the volume has
  pub count-nodes : length o.parts.nodes.items ≡ length (nodes_of v.clusters)
  count-nodes =
      ap length opened.nodes ∙ nodes-count (λ p a. IsArrival tells meter text image v.layout p a) known disks opened.arrivals as-many opened.arrived ∙ length-map (nodes_of v.clusters) _

  pub count-missing : length o.missing.items ≡ length o.parts.nodes.items
  count-missing =
      ap length opened.missing ∙ length-map opened.arrivals _ ∙ arrivals-count (λ p a. IsArrival tells meter text image v.layout p a) known disks opened.arrivals as-many opened.arrived
      ∙ length-map (nodes_of v.clusters) _ ∙ sym count-nodes

-- ---- each of them

module _ {D : Type 0} (tells : Bool) (meter : D → Meter) (text : D → List ℕ) (image : D → List ℕ → Type 0) (kind : List ℕ) (old : List Event) where
  abbrev v : Volume
  v = volume_in kind

  -- it is as the log has it
  abbrev IsByLog : Arrived D → Type 0
  IsByLog (arrived.Here s) = IsLogged (unfused image) v old s.sid s.node
  IsByLog (arrived.Away a) = IsAwayByLog old a.sid a.fence a.losses

  module _ (ready : IsReadyLaw tells meter text image) (keeps : IsTrue (keeps_legal kind)) (told : IsTrue tells) (mid : List Event) (s : ExportState) (row : List (Arrived D)) (back : AreBack v (here_in row) mid s (nodes_in row) old) where
    one-by-log : (a : Arrived D) → IsBackAt meter text image v mid old row a → IsByLog a
    one-by-log (arrived.Here server) is =
        ((ready kind (here_in row) mid old s (nodes_in row) (λ n. 0) server told is.1 back (ap is_some is.0) (ap (λ o. unwrap_or o fresh) is.0)).logged keeps).1
    one-by-log (arrived.Away a) is = is.1

    all-by-log : (some : List (Arrived D)) → AllByRecursion (IsBackAt meter text image v mid old row) some → AllByRecursion IsByLog some
    all-by-log [] all = tt
    all-by-log (a ∷ some) all = (one-by-log a all.0, all-by-log some all.1)

  module _ (first : ℕ → ℕ) (none : (n : ℕ) → first n ≡ 0) (s : ExportState) where
    abbrev known-at : NodeSpec → KnownNode
    known-at spec = record { node = spec; losses = loss_of s spec.sid; fence = fence_of s spec.sid }

    ready-here : (spec : NodeSpec) → IsDescribed v spec → (d : Option D) (server : Server (UnderFuse D)) → IsHere tells meter text image v.layout (known-at spec) d server → (IsTrue (keeps_legal kind) → IsTrue tells × IsByLog (arrived.Here server))
        → IsNodeReady tells meter image kind old first server (word_token_of spec)
    ready-here spec is None server here by-log = absurd here
    ready-here spec is (Some d) server here by-log =
        let it = here.0 in
        let same : geometry_of v.layout spec ≡ geometry_in v server.sid = ap (λ (c : ℕ). record { layout = v.layout; bsize = bsize_of v.layout; node = spec.sid; cells = c }) (sym is.cells) ∙ ap (geometry_in v) (sym it.number) in
        record {
          word_token_is = ap (λ (k : ℕ). new_word_token (Node k)) (sym it.number);
          of_volume = subst (IsNodeOf v) (sym it.number) is.of_volume;
          geometry = it.geometry ∙ same;
          logged = by-log;
          unarmed = it.unarmed;
          count = (let zero = none server.sid in omega (arith, zero));
        }

    all-ready : (specs : List NodeSpec) → AllByRecursion (IsDescribed v) specs → (disks : List (Option D)) → length disks ≡ length specs → (arrivals : List (Arrival D)) → AllZip (IsArrival tells meter text image v.layout) (zip (known_of s specs) disks) arrivals
        → (IsTrue (keeps_legal kind) → IsTrue tells × AllByRecursion IsByLog (arrived_by (known_of s specs) arrivals)) → AllZip (IsArrivedReady tells meter image kind old first) (arrived_by (known_of s specs) arrivals) (map word_token_of specs)
    all-ready [] all [] count arrivals came by-log = tt
    all-ready [] all (d ∷ disks) count arrivals came by-log = absurd (omega (arith, count))
    all-ready (spec ∷ specs) all [] count arrivals came by-log = absurd (omega (arith, count))
    all-ready (spec ∷ specs) all (d ∷ disks) count [] came by-log = absurd came
    all-ready (spec ∷ specs) all (d ∷ disks) count (arrival.Here server ∷ arrivals) came by-log = (
      ready-here spec all.0 d server came.0 (λ keeps. ((by-log keeps).0, (by-log keeps).1.0)),
      all-ready specs all.1 disks (omega (arith, count)) arrivals came.1 (λ keeps. ((by-log keeps).0, (by-log keeps).1.1)),
    )
    all-ready (spec ∷ specs) all (d ∷ disks) count (arrival.Away why ∷ arrivals) came by-log = (
      record { word_token_is = refl; of_volume = all.0.of_volume; logged = λ keeps. ((by-log keeps).0, (by-log keeps).1.0) },
      all-ready specs all.1 disks (omega (arith, count)) arrivals came.1 (λ keeps. ((by-log keeps).0, (by-log keeps).1.1)),
    )

  -- ---- the whole store, after the log of earlier runs

  module _ (j : ℕ) (o : OpenedDisks D) where
    pub reopened-on : (past : IsAfterPast tells meter text image v j old o) → IsReopened meter text image v past.0 (replaced past.1 (numbers v) past.0) old (export_in o.parts.metadata) o.parts.nodes.items
    reopened-on past = subst (λ (l : List Event). IsReopened meter text image v past.0 (replaced past.1 (numbers v) past.0) l (export_in o.parts.metadata) o.parts.nodes.items) (sym past.3) past.2.nodes

    pub are-ready : (ready : IsReadyLaw tells meter text image) (first : ℕ → ℕ) → ((n : ℕ) → first n ≡ 0) → (counted : Option ℕ) → IsOpenedOnSome tells meter text image v counted o → (IsTrue (keeps_legal kind) → IsAfterPast tells meter text image v j old o)
        → (word_tokens : List WordTokenView) → word_tokens ≡ map (λ n. new_word_token (Node n)) (sids_of v) → AllZip (IsArrivedReady tells meter image kind old first) o.parts.nodes.items word_tokens
    are-ready ready first none counted opened past word_tokens is =
        let it = opened.3 in
        let s = export_in o.parts.metadata in
        let specs = nodes_of v.clusters in
        let by-log : IsTrue (keeps_legal kind) → IsTrue tells × AllByRecursion IsByLog (arrived_by (known_of s specs) it.nodes.arrivals) = λ keeps.
        (let on = reopened-on (past keeps) in let told = (past keeps).2.told in (
          told,
          subst (λ (ns : List (Arrived D)). AllByRecursion IsByLog ns) it.nodes.nodes
              (all-by-log ready keeps told (replaced (past keeps).1 (numbers v) (past keeps).0) s o.parts.nodes.items on.back o.parts.nodes.items on.each),
        )) in
        subst (λ (ts : List WordTokenView). AllZip (IsArrivedReady tells meter image kind old first) o.parts.nodes.items ts) (sym (is ∙ word_tokens-are specs))
        (subst (λ (ns : List (Arrived D)). AllZip (IsArrivedReady tells meter image kind old first) ns (map word_token_of specs)) (sym it.nodes.nodes)
        (all-ready first none s specs (described v it.rules) opened.0 it.nodes.count it.nodes.arrivals it.nodes.arrived by-log))

-- a book that goes on keeps its log legal
pub goes-legal : (kind : List ℕ) → IsTrue (goes_on kind) → IsTrue (keeps_legal kind)
goes-legal kind on = go (keeps_legal kind) on
  where
    go : (b : Bool) → IsTrue (b && not (is_none (earlier_in kind))) → IsTrue b
    go true is = refl
    go false never = absurd (cc)
