-- The nodes of a volume, formatted, with the tokens of their words.
use Rattle.std.proofs.Common.{◌≡◌, inl, inr, ℕ, Bool, false, cond, List, [], ◌∷◌, map, length, refl, sym, ◌∙◌, ap, subst, arith, eq-eqb}
use Rattle.std.specs.Prelude.{nat_eq, IsTrue}
use Rattle.std.specs.List.{AllByRecursion, AllZip, zip, IsDistinct}
use Rattle.mj_angles.specs.Layout.{bsize_of}
use Rattle.rz_disk.specs.Meter.{Meter, faults}
use Rattle.rz_disk.specs.UnderFuse.{UnderFuse}
use Rattle.rz_events.specs.Volume.{Volume, IsVolume, nodes_of}
use Rattle.rz_events.specs.declared.files.NodeSpec.{NodeSpec}
use Rattle.rz_events.specs.declared.events.Word.TheVariants.{Node}
use Rattle.rz_events.specs.declared.events.Event.{Event}
use Rattle.rz_cells_slots.specs.declared.geometry.Geometry.{Geometry}
use Rattle.rz_cells_slots.specs.Held.{nothing}
use Rattle.rz_cells_slots.specs.Stands.{StandsFor}
use Rattle.rz_core.specs.History.{facts}
use Rattle.rz_core.specs.NodeRows.{cells_among, cells_of, IsNodeOf}
use Rattle.rz_core.specs.Tied.{IsNode}
use Rattle.rz_log_laws.specs.Beside.{IsBeginning}
use Rattle.rz_node_model.specs.States.{NodeState}
use Rattle.rz_node_laws.specs.Images.{IsImaged, geometry_in}
use Rattle.rz_node_laws.specs.Laws.{IsFreshLaw}
use Rattle.rz_chronicle.specs.Rules.{WordTokenView}
use Rattle.rz_chronicle.specs.Dealing.{new_word_token}
use Rattle.rz_chronicle.specs.Keys.{sids_of}
use Rattle.rz_chronicle.specs.Kinds.{keeps_legal, volume_in}
use Rattle.rz_nodes.specs.declared.formatting.Server.{Server}
use Rattle.rz_nodes.specs.Formatted.{geometry_of, IsNodeFormatted, AreFormatted}
use Rattle.rz_shared_locked.specs.LockedNodes.{IsLogged}
use Rattle.rz_shared.specs.Arranged.{sids}
use Rattle.rz_shared.specs.Seating.{IsNodeReady, unfused}

-- A node is one of the volume's, with the cells of its number.

-- what a description says of a node
pub record IsDescribed (v : Volume) (n : NodeSpec) : Type 0 where
  pub cells : cells_of v n.sid ≡ n.cells
  pub of_volume : IsNodeOf v n.sid

abbrev HasCells : List NodeSpec → NodeSpec → Type 0
HasCells specs n = cells_among specs n.sid ≡ n.cells

other-cells : (x : NodeSpec) (specs more : List NodeSpec) → AllByRecursion (λ k. nat_eq x.sid k ≡ false) (map (λ (n : NodeSpec). n.sid) more) → AllByRecursion (HasCells specs) more → AllByRecursion (HasCells (x ∷ specs)) more
other-cells x specs [] apart all = tt
other-cells x specs (n ∷ more) apart all = (ap (λ (b : Bool). cond b x.cells (cells_among specs n.sid)) apart.0 ∙ all.0, other-cells x specs more apart.1 all.1)

own-cells : (specs : List NodeSpec) → IsDistinct nat_eq (map (λ (n : NodeSpec). n.sid) specs) → AllByRecursion (HasCells specs) specs
unfolding IsDistinct
own-cells [] apart = tt
own-cells (x ∷ specs) apart = (
  ap (λ (b : Bool). cond b x.cells (cells_among specs x.sid)) (eq-eqb x.sid x.sid refl),
  other-cells x specs specs apart.0 (own-cells specs apart.1),
)

abbrev Stands-in : List NodeSpec → NodeSpec → Type 0
Stands-in specs n = Rattle.rz_node_model.specs.Versions.Stands n.sid (map (λ (m : NodeSpec). m.sid) specs)

behind : (x : NodeSpec) (specs more : List NodeSpec) → AllByRecursion (Stands-in specs) more → AllByRecursion (Stands-in (x ∷ specs)) more
behind x specs [] all = tt
behind x specs (n ∷ more) all = (inr all.0, behind x specs more all.1)

each-stands : (specs : List NodeSpec) → AllByRecursion (Stands-in specs) specs
each-stands [] = tt
each-stands (x ∷ specs) = (inl refl, behind x specs specs (each-stands specs))

both-hold : (v : Volume) (specs : List NodeSpec) → AllByRecursion (HasCells (nodes_of v.clusters)) specs → AllByRecursion (Stands-in (nodes_of v.clusters)) specs → AllByRecursion (IsDescribed v) specs
both-hold v [] cells stands = tt
both-hold v (n ∷ specs) cells stands = (record { cells = cells.0; of_volume = stands.0 }, both-hold v specs cells.1 stands.1)

pub described : (v : Volume) → IsVolume v → AllByRecursion (IsDescribed v) (nodes_of v.clusters)
described v rules = both-hold v (nodes_of v.clusters) (own-cells (nodes_of v.clusters) rules.distinct_sids) (each-stands (nodes_of v.clusters))

-- Each formatted node and the token of its word are ready.

abbrev pub word_token_of : NodeSpec → WordTokenView
word_token_of n = new_word_token (Node n.sid)

pub word_tokens-are : (specs : List NodeSpec) → map (λ k. new_word_token (Node k)) (map (λ (n : NodeSpec). n.sid) specs) ≡ map word_token_of specs
word_tokens-are [] = refl
word_tokens-are (n ∷ specs) = ap (λ (ps : List WordTokenView). word_token_of n ∷ ps) (word_tokens-are specs)

-- In a book whose log begins anew.
module _ {D : Type 0} (tells : Bool) (meter : D → Meter) (text : D → List ℕ) (image : D → List ℕ → Type 0) (kind : List ℕ) (earlier : List Event) (none : earlier ≡ []) (telling : IsTrue (keeps_legal kind) → IsTrue tells) (begins : IsBeginning (volume_in kind)) (new : IsFreshLaw (unfused image)) (first : ℕ → ℕ) where
  abbrev v : Volume
  v = volume_in kind

  abbrev pub Made : NodeSpec × D → Server (UnderFuse D) → Type 0
  Made = IsNodeFormatted tells meter text image v.layout

  ready-one : (n : NodeSpec) (d : D) (s : Server (UnderFuse D)) → IsDescribed v n → first n.sid ≡ faults (meter d) → Made (n, d) s → IsNodeReady tells meter image kind earlier first s (word_token_of n)
  ready-one n d s it had made =
      let same : geometry_of v.layout n ≡ geometry_in v s.sid = ap (λ (c : ℕ). record { layout = v.layout; bsize = bsize_of v.layout; node = n.sid; cells = c }) (sym it.cells) ∙ ap (geometry_in v) (sym made.number) in
      record {
        word_token_is = ap (λ (k : ℕ). new_word_token (Node k)) (sym made.number);
        of_volume = subst (IsNodeOf v) (sym made.number) it.of_volume;
        geometry = made.geometry ∙ same;
        logged = λ keeps. (
          telling keeps,
          subst (λ (h : List Event). IsLogged (unfused image) v h s.sid s.node) (sym none) (record {
            tied = subst (IsNode (facts []) []) (sym made.state) (begins (facts [])).0;
            imaged = subst (λ (z : NodeState). IsImaged v (facts []) s.sid z s.node.geometry (image s.node.disk.disk)) (sym made.state)
                (new v (facts []) s.sid s.node.geometry s.node.disk (λ c left.
                subst (λ (u : List ℕ). StandsFor s.node.geometry 0 u nothing) (sym (made.settled c left))
                (subst (λ (g : Geometry). StandsFor g 0 (text s.node.disk.disk) nothing) (sym made.geometry) (made.stands (telling keeps)))));
          }),
        );
        unarmed = made.unarmed;
        count = (let same = ap first made.number in let rose = made.count in omega (arith, same, had, rose));
      }

  ready-each : (specs : List NodeSpec) (disks : List D) (servers : List (Server (UnderFuse D))) → length disks ≡ length specs → map first (sids specs) ≡ map (λ (d : D). faults (meter d)) disks → AllByRecursion (IsDescribed v) specs → AllZip Made (zip specs disks) servers
      → AllZip (IsNodeReady tells meter image kind earlier first) servers (map word_token_of specs)
  ready-each [] [] [] count had each all = tt
  ready-each [] [] (s ∷ servers) count had each all = absurd all
  ready-each [] (d ∷ disks) servers count had each all = absurd (omega (arith, count))
  ready-each (n ∷ specs) [] servers count had each all = absurd (omega (arith, count))
  ready-each (n ∷ specs) (d ∷ disks) [] count had each all = absurd all
  ready-each (n ∷ specs) (d ∷ disks) (s ∷ servers) count had each all = (ready-one n d s each.0 (ap (head-or 0) had) all.0, ready-each specs disks servers (omega (arith, count)) (ap rest had) each.1 all.1)
    where
      head-or : ℕ → List ℕ → ℕ
      head-or d [] = d
      head-or d (x ∷ xs) = x

      rest : List ℕ → List ℕ
      rest [] = []
      rest (x ∷ xs) = xs

  -- all of them
  pub ready-all : (rules : IsVolume v) (disks : List D) (servers : List (Server (UnderFuse D))) (word_tokens : List WordTokenView) → length disks ≡ length (nodes_of v.clusters) → map first (sids_of v) ≡ map (λ (d : D). faults (meter d)) disks
      → AreFormatted tells meter text image v.layout (nodes_of v.clusters) disks servers → word_tokens ≡ map (λ k. new_word_token (Node k)) (sids_of v) → AllZip (IsNodeReady tells meter image kind earlier first) servers word_tokens
  ready-all rules disks servers word_tokens count had all is =
      subst (AllZip (IsNodeReady tells meter image kind earlier first) servers) (sym (is ∙ word_tokens-are (nodes_of v.clusters))) (ready-each (nodes_of v.clusters) disks servers count had (described v rules) all)
