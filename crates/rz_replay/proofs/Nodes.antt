-- What a node gives of a published record.
use Rattle.std.proofs.Common.{◌≡◌, ℕ, Bool, true, false, cond, IsTrue, List, [], ◌∷◌, ◌++◌, length, take, drop, Option, Some, None, refl, sym, ◌∙◌, ap, subst, arith}
use Rattle.std.specs.Prelude.{slice_get, ◌==◌}
use Rattle.std.proofs.lemmas.Bool.{eqb-true}
use Rattle.std.proofs.lemmas.Option.{same_Some}
use Rattle.mj_angles.specs.Layout.{angle_of, bins_at_of}
use Rattle.mj_forward.specs.Forward.{projection_of}
use Rattle.rz_words.specs.Grid.{Grid}
use Rattle.rz_disk.specs.UnderFuse.{UnderFuse}
use Rattle.rz_events.specs.Volume.{Volume}
use Rattle.rz_events.specs.declared.keys.Key.{Key}
use Rattle.rz_events.specs.declared.events.Event.{Event}
use Rattle.rz_events.specs.declared.files.Listed.{Listed}
use Rattle.rz_events.specs.declared.records.Held.{Held}
use Rattle.rz_events.specs.declared.nodes.Phase.{Phase}
use Rattle.rz_events.specs.declared.nodes.Phase.TheVariants.{Up, Down, Lost}
use Rattle.rz_events.specs.declared.nodes.FetchAnswer.TheVariants as fetch
use Rattle.rz_node_model.specs.Answers.{IsFetchAnswer, fetch_answer, fetch_found, fetch_in}
use Rattle.rz_node_model.specs.Records.{found, held_of}
use Rattle.rz_node_model.specs.States.{NodeState}
use Rattle.rz_export_model.specs.Export.{Export as ExportState}
use Rattle.rz_export_model.specs.Tree.{file_of}
use Rattle.rz_core.specs.History.{Facts, facts, text_in}
use Rattle.rz_core.specs.HeldRecords.{block_of, bins_at}
use Rattle.rz_core.specs.Legal.{IsLegalInRuns}
use Rattle.rz_core.proofs.Locality.{next-run}
use Rattle.rz_core.proofs.NameTies.{file-places}
use Rattle.rz_operation_model.specs.Rebuild.{position_in}
use Rattle.rz_log_laws.specs.Places.{AreLaid, IsApart}
use Rattle.rz_node_laws.specs.Images.{IsImaged}
use Rattle.rz_node_laws.specs.Laws.{IsFetchLaw, IsReadBack}
use Rattle.rz_play.specs.World.{World}
use Rattle.rz_scrub_report.specs.Asks.{AreGiven}
use Rattle.rz_scrub_report.specs.Scrubs.{EachListed}
use Rattle.rz_driver_actors.specs.declared.actor_agenda.Agenda.{Agenda}
use Rattle.rz_nodes.specs.declared.formatting.Server.{Server}
use Rattle.rz_driver_nodes.specs.Fetches.{GivesIn}
use Rattle.rz_driver_nodes.specs.Asked.{fused_text}
use Rattle.rz_driver_nodes.specs.Images.{AreImaged, HasImages, fused_image}
use Rattle.rz_driver.specs.Coherence.{IsCoherent}
use Rattle.rz_driver_nodes.specs.Servers.{state_in}
use Rattle.rz_driver_nodes.proofs.Rows.{all-at, state-at}
use Rattle.rz_block_laws.proofs.Fetching.{length-bins}
use Rattle.rz_replay.proofs.Blocks.{front, is-block, of-record, position-is}
use Rattle.rz_replay.proofs.Listed.{listed-file}

-- a record that is told is of the stamp that was asked for

found-stamp : (stamp : ℕ) (held : List Held) (told : Held) → found stamp held ≡ Some told → told.stamp ≡ stamp
found-stamp stamp [] told is = cc
found-stamp stamp (r ∷ held) told is = by_test (r.stamp == stamp) refl (found-stamp stamp held told) is
  where
    by_test : (b : Bool) → (r.stamp == stamp) ≡ b → (found stamp held ≡ Some told → told.stamp ≡ stamp) → cond b (Some r) (found stamp held) ≡ Some told → told.stamp ≡ stamp
    by_test true same more h = ap (λ (x : Held). x.stamp) (sym (same_Some r told h)) ∙ eqb-true r.stamp stamp same
    by_test false other more h = more h

found-told : (o : Option Held) (told : Held) → fetch.Held told ≡ fetch_found o → o ≡ Some told
found-told None told is = cc
found-told (Some r) told is = let same : r ≡ told = cc in ap Some same

told-in : (phase : Phase) (o : Option Held) (told : Held) → fetch.Held told ≡ fetch_in phase (fetch_found o) → o ≡ Some told
told-in Up o told is = found-told o told is
told-in Down o told is = cc
told-in Lost o told is = cc

told-stamp : (s : NodeState) (key : Key) (stamp : ℕ) (told : Held) → IsFetchAnswer (fetch_answer s key stamp) (fetch.Held told) → told.stamp ≡ stamp
told-stamp s key stamp told is = found-stamp stamp (held_of s.held key) told (told-in s.phase (found stamp (held_of s.held key)) told is)

module _ (v : Volume) (f : Facts) (l : Listed) (placed : f.places l.key.fid ≡ Some l.info.places) (apart : IsApart l.info.places) where
  abbrev its : Grid
  its = block_of v.layout (text_in (f.wrote l.published.stamp))

  -- the bins of a record that was read back
  of-write : (n position : ℕ) → slice_get l.info.places position ≡ Some n → (told : Held) (before room : List ℕ) → told.stamp ≡ l.published.stamp → IsReadBack v f n l.key told before room
      → take (bins_at_of v.layout position) room ≡ projection_of its (angle_of v.layout position)
  of-write n position at told before room stamped back =
      let r = of-record v.layout n back.head.stamp (f.wrote back.head.stamp) (f.places back.head.key.fid) back.head back.bins back.it in
      let stamps : back.head.stamp ≡ l.published.stamp = ap (λ (h : Held). h.stamp) (sym back.told_is) ∙ stamped in
      let wrote : f.wrote l.published.stamp ≡ Some r.begun = ap f.wrote (sym stamps) ∙ r.wrote in
      let text : r.begun.text ≡ text_in (f.wrote l.published.stamp) = ap text_in (sym wrote) in
      let places : r.places ≡ l.info.places = same_Some r.places l.info.places (sym r.placed ∙ ap (λ (k : Key). f.places k.fid) back.key_is ∙ placed) in
      let place : position_in n 0 r.places ≡ position = ap (position_in n 0) places ∙ (let p = position-is n l.info.places 0 position apart at in omega (arith, p)) in
      let bins : back.bins ≡ bins_at v.layout its position =
      sym r.bins_are ∙ ap (bins_at v.layout (block_of v.layout r.begun.text)) place ∙ ap (λ (t : List ℕ). bins_at v.layout (block_of v.layout t) position) text in
      let long : length back.bins ≡ bins_at_of v.layout position = ap (λ (xs : List ℕ). length xs) bins ∙ length-bins v.layout (text_in (f.wrote l.published.stamp)) position in
      ap (take (bins_at_of v.layout position)) back.bins_are ∙ front (bins_at_of v.layout position) back.bins (drop (length back.bins) before) long ∙ bins

module _ {D : Type 0} (tells : Bool) (text : D → List ℕ) (image : D → List ℕ → Type 0) (law : IsFetchLaw text image) (told_it : IsTrue tells) where
  -- what a node in the row gives
  read-back : (v : Volume) (f : Facts) (servers : List (Server (UnderFuse D))) → AreImaged (fused_image image) v f servers → (n : ℕ) (key : Key) (stamp : ℕ) (told : Held) (before room : List ℕ)
      → IsFetchAnswer (fetch_answer (state_in servers n) key stamp) (fetch.Held told) → GivesIn tells (fused_text text) servers n key told before room → IsReadBack v f n key told before room
  read-back v f servers imaged n key stamp told before room answers (place, s, at, is, gives) =
      let here = state-at servers n place s at is in
      let images : HasImages (fused_image image) v f s.sid s.node = all-at (λ (t : Server (UnderFuse D)). HasImages (fused_image image) v f t.sid t.node) servers place s imaged is in
      let own = subst (λ (m : ℕ). IsImaged v f m s.node.state s.node.geometry (image s.node.disk.disk)) here.0 images.images in
      law v f n 0 s.node.geometry s.node.state key 0 stamp told before room s.node.disk.disk s.node.disk.disk
      (subst (λ (x : NodeState). IsFetchAnswer (fetch_answer x key stamp) (fetch.Held told)) here.1 answers)
      ((λ c has. has), gives told_it) own

  pub given-back : ((v : Volume) → AreLaid v) → (v : Volume) (old : List Event) (w : World) (agendas : List Agenda) (servers : List (Server (UnderFuse D))) → w.nodes ≡ state_in servers
      → IsCoherent (fused_image image) v old w agendas servers
      → EachListed w.export (λ l. AreGiven v.layout (GivesIn tells (fused_text text) servers) w.nodes l (block_of v.layout (text_in ((facts (w.log ++ old)).wrote l.published.stamp))))
  given-back laid v old w agendas servers same coherence after l listed =
      let f = facts (w.log ++ old) in
      let fine = coherence.fine in
      let legal : IsLegalInRuns v (w.log ++ old) = subst (IsLegalInRuns v) (sym fine.log_is) (next-run v old fine.run fine.legal) in
      let file = ap (λ (s : ExportState). file_of s.tree l.key.fid) (sym fine.export_is) ∙ listed-file w.export after l listed in
      let placed : f.places l.key.fid ≡ Some l.info.places = file-places v (w.log ++ old) legal l.key.fid l.info file in
      let apart = (laid v coherence.rules (w.log ++ old) legal l.key.fid l.info.places placed).apart in
      record {
        block = is-block v.layout (text_in (f.wrote l.published.stamp));
        each = λ position n told before room at answers gives.
            of-write v f l placed apart n position at told before room (told-stamp (w.nodes n) l.key l.published.stamp told answers)
            (read-back v f servers coherence.disks n l.key l.published.stamp told before room (subst (λ (nodes : ℕ → NodeState). IsFetchAnswer (fetch_answer (nodes n) l.key l.published.stamp) (fetch.Held told)) same answers) gives);
      }
