-- What the images of a disk stand for after each call.
use Rattle.std.proofs.Common.{ℕ, Bool, true, false, ◌≡◌, ◌≢◌, ◌⊎◌, inl, inr, List, [], Option, Some, None, cond, refl, sym, ap, ◌∙◌, subst}
use Rattle.std.specs.Prelude.{if◌then◌else◌, IsSome, ◌==◌}
use Rattle.std.specs.FinMap as maps
use Rattle.std.specs.FinMap.{get-empty}
use Rattle.std.proofs.Math.Path.{fun_ext}
use Rattle.rz_disk.specs.Images.{Only, Within}
use Rattle.rz_events.specs.Volume.{Volume}
use Rattle.rz_events.specs.Keys.{key_cmp}
use Rattle.rz_events.specs.declared.keys.Key.{Key}
use Rattle.rz_events.specs.declared.records.Head.{Head}
use Rattle.rz_events.specs.declared.records.Held.{Held}
use Rattle.rz_events.specs.declared.nodes.Phase.{Phase}
use Rattle.rz_events.specs.declared.nodes.Phase.TheVariants.{Up, Down, Lost}
use Rattle.rz_events.specs.declared.nodes.NodeAsk.TheVariants as ask
use Rattle.rz_events.specs.declared.nodes.NodeAnswer.TheVariants as answer
use Rattle.rz_events.specs.declared.nodes.KeepAnswer.{KeepAnswer}
use Rattle.rz_events.specs.declared.nodes.KeepAnswer.TheVariants as keep
use Rattle.rz_events.specs.declared.nodes.RefillAnswer.{RefillAnswer}
use Rattle.rz_events.specs.declared.nodes.RefillAnswer.TheVariants as refill
use Rattle.rz_events.specs.declared.nodes.FetchAnswer.{FetchAnswer}
use Rattle.rz_events.specs.declared.nodes.FetchAnswer.TheVariants as fetch
use Rattle.rz_events.specs.declared.nodes.DropAnswer.{DropAnswer}
use Rattle.rz_events.specs.declared.nodes.DropAnswer.TheVariants as drop
use Rattle.rz_events.specs.declared.nodes.StartAnswer.TheVariants as start
use Rattle.rz_events.specs.declared.nodes.ReplaceAnswer.TheVariants as replace
use Rattle.rz_record.specs.Slot.{Rec}
use Rattle.rz_node_model.specs.declared.pending.Pending.{Pending}
use Rattle.rz_node_model.specs.declared.pending.Pending.TheVariants as pending
use Rattle.rz_node_model.specs.Records.{Records, listed, held_of, with_held, carried, record_of, stamp_of, key_at}
use Rattle.rz_node_model.specs.Versions.{kept, refilled, without, has_stamp}
use Rattle.rz_node_model.specs.States.{NodeState, opened}
use Rattle.rz_node_model.specs.Afterwards.{with_change, after_fault, taken, after_start}
use Rattle.rz_node_model.specs.Answers.{keep_in, refill_in, fetch_in, drop_in, stop_in, replace_in}
use Rattle.rz_cells_slots.specs.declared.geometry.Geometry.{Geometry}
use Rattle.rz_cells_slots.specs.Held.{nothing}
use Rattle.rz_cells_slots.specs.Held as cells
use Rattle.rz_cells_slots.specs.Stands.{StandsFor}
use Rattle.rz_node.specs.CrashOutcomes.{CrashOutcomes}
use Rattle.rz_node.specs.Change.{AreHeld, IsOf, IsChangeLaw}
use Rattle.rz_node.specs.Leaves.{Opened}
use Rattle.rz_core.specs.History.{Facts}
use Rattle.rz_node_laws.specs.Records.{records_in, IsRecordOf}
use Rattle.rz_node_laws.specs.Images.{IsImaged}
use Rattle.rz_node_laws.specs.Laws.{IsFreshLaw, IsCallLaw, IsFewerLaw, IsCrashLaw}
use Rattle.rz_node_laws.proofs.Records.{IsWriteOf, Known, at-stamp, written, known-held, held-then, changed-is}

-- ---- an answer that needs the disk is that of an up node

keep-up : (phase : Phase) (up : KeepAnswer) → keep_in phase up ≡ keep.Kept → phase ≡ Up
keep-up Up up is = refl
keep-up Down up is = absurd (cc)
keep-up Lost up is = absurd (cc)

refill-up : (phase : Phase) (up : RefillAnswer) → refill_in phase up ≡ refill.Kept → phase ≡ Up
refill-up Up up is = refl
refill-up Down up is = absurd (cc)
refill-up Lost up is = absurd (cc)

pub fetch-up : (phase : Phase) (up : FetchAnswer) (r : Held) → fetch_in phase up ≡ fetch.Held r → phase ≡ Up
fetch-up Up up r is = refl
fetch-up Down up r is = absurd (cc)
fetch-up Lost up r is = absurd (cc)

drop-up : (phase : Phase) (up : DropAnswer) (block stamp : ℕ) (more : Bool) → drop_in phase up ≡ drop.Dropped block stamp more → phase ≡ Up
drop-up Up up block stamp more is = refl
drop-up Down up block stamp more is = absurd (cc)
drop-up Lost up block stamp more is = absurd (cc)

stop-up : (phase : Phase) → stop_in phase ≡ true → phase ≡ Up
stop-up Up is = refl
stop-up Down is = absurd (cc)
stop-up Lost is = absurd (cc)

replace-lost : (phase : Phase) (same : Bool) (losses : ℕ) → replace_in phase same losses ≡ replace.Replaced → phase ≡ Lost
replace-lost Lost same losses is = refl
replace-lost Down same losses is = absurd (cc)
replace-lost Up same losses is = absurd (cc)

up-down : (phase : Phase) → phase ≡ Up → phase ≢ Down
up-down phase up down = absurd (cc)

up-lost : (phase : Phase) → phase ≡ Up → phase ≢ Lost
up-lost phase up lost = absurd (cc)

down-lost : (phase : Phase) → phase ≡ Down → phase ≢ Lost
down-lost phase down lost = absurd (cc)

not-down : {A : Type 0} → Down ≢ Down → A
not-down never = absurd (never refl)

-- ---- a change of the records of a key

module _ (v : Volume) (f : Facts) (n : ℕ) (g : Geometry) (s : NodeState) where
  abbrev stands : Records → List ℕ → Type 0
  stands held c = StandsFor g s.fence c (records_in v f n held)

  -- the text of an up node's disk stands for what is held
  pub text-stands : (text : List ℕ) (image : List ℕ → Type 0) → image text → s.phase ≡ Up → IsImaged v f n s g image → stands s.held text
  text-stands text image at up old = elim (old.each (up-lost s.phase up) text at) [
    | inl held ↦ held
    | inr pending ↦ subst (λ (u : Option Pending). stands (taken u s.held) text) (old.decided (up-down s.phase up)) pending
  ]

  module _ (law : IsChangeLaw) (text text' : List ℕ) (image image' : List ℕ → Type 0) (at : image text) (up : s.phase ≡ Up) (old : IsImaged v f n s g image)
      (change : Pending) (key : Key) (after : List Held) (is : carried change s.held ≡ with_held s.held key after) (new : Option Rec) (of : IsOf key new) (write : IsWriteOf v f n new) where
    held-after : (used : Option Bool) → CrashOutcomes g s.fence text text' image' used key (held_of s.held key) after new → AreHeld (carried change s.held) (records_in v f n (carried change s.held))
    held-after used a = subst (λ (k : Records). AreHeld k (records_in v f n k)) (sym is) (held-then v f n s.held key after new a.gone a.way of write old.held)

    changes : (used : Option Bool) (a : CrashOutcomes g s.fence text text' image' used key (held_of s.held key) after new) → cells.changed (records_in v f n s.held) a.gone new ≡ records_in v f n (carried change s.held)
    changes used a = changed-is v f n s.held key after new a.gone a.way of write old.held law ∙ ap (records_in v f n) (sym is)

    pub done : CrashOutcomes g s.fence text text' image' (Some true) key (held_of s.held key) after new → IsImaged v f n (with_change s change) g image'
    done a =
        let none = old.decided (up-down s.phase up) in
        let now : stands (carried change s.held) text' = subst (λ (r : cells.Records). StandsFor g s.fence text' r) (changes (Some true) a) (a.done refl (records_in v f n s.held) (text-stands text image at up old)) in
        record {
          decided = old.decided;
          held = held-after (Some true) a;
          pending = subst (λ (u : Option Pending). AreHeld (taken u (carried change s.held)) (records_in v f n (taken u (carried change s.held)))) (sym none) (held-after (Some true) a);
          each = λ there c left. inl (subst (stands (carried change s.held)) (sym (a.settled refl c left)) now);
        }

    pub failed : CrashOutcomes g s.fence text text' image' (Some false) key (held_of s.held key) after new → IsImaged v f n (after_fault s (Some change)) g image'
    failed a = record {
      decided = λ never. not-down never;
      held = old.held;
      pending = held-after (Some false) a;
      each = λ there c left. elim (a.either (records_in v f n s.held) c (text-stands text image at up old) left) [
        | inl was ↦ inl was
        | inr has ↦ inr (subst (λ (r : cells.Records). StandsFor g s.fence c r) (changes (Some false) a) has)
      ];
    }

  -- ---- other calls

  -- no image is new
  pub within : (image image' : List ℕ → Type 0) → Within image image' → IsImaged v f n s g image → IsImaged v f n s g image'
  within image image' fewer old = record {
    decided = old.decided;
    held = old.held;
    pending = old.pending;
    each = λ there c left. old.each there c (fewer c left);
  }

  -- an up node goes down, and nothing is undecided
  pub downs : (image image' : List ℕ → Type 0) → Within image image' → s.phase ≡ Up → IsImaged v f n s g image → IsImaged v f n (after_fault s None) g image'
  downs image image' fewer up old = record {
    decided = λ never. refl;
    held = old.held;
    pending = old.held;
    each = λ there c left. elim (old.each (up-lost s.phase up) c (fewer c left)) [
      | inl held ↦ inl held
      | inr pending ↦ inl (subst (λ (u : Option Pending). stands (taken u s.held) c) (old.decided (up-down s.phase up)) pending)
    ];
  }

  -- a stop
  pub stopped : (image image' : List ℕ → Type 0) → Within image image' → s.phase ≡ Up → IsImaged v f n s g image → IsImaged v f n (record s { phase = Down }) g image'
  stopped image image' fewer up old = record {
    decided = λ never. not-down never;
    held = old.held;
    pending = old.pending;
    each = λ there c left. old.each (up-lost s.phase up) c (fewer c left);
  }

  -- whatever the images of a lost node's disk are
  pub broken : (image image' : List ℕ → Type 0) → s.phase ≡ Lost → IsImaged v f n s g image → IsImaged v f n s g image'
  broken image image' lost old = record {
    decided = old.decided;
    held = old.held;
    pending = old.pending;
    each = λ there c left. absurd (there lost);
  }

-- ---- a node that holds nothing

pub none-held : (key : Key) → held_of maps.empty key ≡ []
none-held key = ap listed (get-empty {X = List Held} key_cmp key)

module _ (v : Volume) (f : Facts) (n : ℕ) where
  none-known : Known v f n maps.empty
  none-known key stamp has =
      let never : false ≡ true = sym (ap (has_stamp stamp_of stamp) (none-held key)) ∙ has in
      absurd (cc)

  none-there : nothing ≡ records_in v f n maps.empty
  none-there = fun_ext (λ key. fun_ext (λ stamp.
      sym (at-stamp v f n maps.empty key stamp ∙ ap (λ (rs : List Held). cond (has_stamp stamp_of stamp rs) (written v f n key stamp) None) (none-held key))))

  -- each image of its disk stands for nothing
  pub emptied : (g : Geometry) (losses fence : ℕ) (image' : List ℕ → Type 0) → ((c : List ℕ) → image' c → StandsFor g fence c nothing) → IsImaged v f n (opened losses fence maps.empty) g image'
  emptied g losses fence image' stand = record {
    decided = λ never. refl;
    held = known-held v f n maps.empty none-known;
    pending = known-held v f n maps.empty none-known;
    each = λ there c left. inl (subst (StandsFor g fence c) none-there (stand c left));
  }

  pub renewed : (g : Geometry) (losses fence : ℕ) (text' : List ℕ) (image' : List ℕ → Type 0) → StandsFor g fence text' nothing → Only text' image' → IsImaged v f n (opened losses fence maps.empty) g image'
  renewed g losses fence text' image' stand only =
      emptied g losses fence image' (λ c left. subst (λ (t : List ℕ). StandsFor g fence t nothing) (sym (only c left)) stand)

-- ---- a start

module _ (v : Volume) (f : Facts) (n : ℕ) (g : Geometry) (s : NodeState) (text text' : List ℕ) (image image' : List ℕ → Type 0) (at : image text) (down : s.phase ≡ Down) (old : IsImaged v f n s g image) where
  found-by : (u : Option Pending) → s.undecided ≡ u → (took : Bool) → (took ≡ true → IsSome u) → Opened g s text text' image' took
      → stands v f n g s s.held text' ⊎ stands v f n g s (taken u s.held) text' → stands v f n g s (if took then taken u s.held else s.held) text'
  found-by None is true some o either = (let never : false ≡ true = some refl in absurd (cc))
  found-by None is false some o (inl held) = held
  found-by None is false some o (inr held) = held
  found-by (Some change) is true some o either =
      o.branch change (records_in v f n s.held) (records_in v f n (carried change s.held)) is old.held
      (subst (λ (u : Option Pending). AreHeld (taken u s.held) (records_in v f n (taken u s.held))) is old.pending) either
  found-by (Some change) is false some o either =
      o.branch change (records_in v f n s.held) (records_in v f n (carried change s.held)) is old.held
      (subst (λ (u : Option Pending). AreHeld (taken u s.held) (records_in v f n (taken u s.held))) is old.pending) either

  found : (took : Bool) → (took ≡ true → IsSome s.undecided) → Opened g s text text' image' took → stands v f n g s (if took then taken s.undecided s.held else s.held) text'
  found took some o = found-by s.undecided refl took some o
      (subst (λ (t : List ℕ). stands v f n g s s.held t ⊎ stands v f n g s (taken s.undecided s.held) t) (sym o.text_is) (old.each (down-lost s.phase down) text at))

  pub started : (took : Bool) → (took ≡ true → IsSome s.undecided) → Opened g s text text' image' took → IsImaged v f n (after_start (start.Started took) s) g image'
  started true some o = record {
    decided = λ never. refl;
    held = old.pending;
    pending = old.pending;
    each = λ there c left. inl (subst (stands v f n g s (taken s.undecided s.held)) (sym (o.settled c left)) (found true some o));
  }
  started false some o = record {
    decided = λ never. refl;
    held = old.held;
    pending = old.held;
    each = λ there c left. inl (subst (stands v f n g s s.held) (sym (o.settled c left)) (found false some o));
  }

-- ---- the laws

the-record : (a b : Rec) → Some a ≡ Some b → a ≡ b
the-record a b is = cc

of-head : (head : Head) (bins : List ℕ) → IsOf head.key (Some record { head = head; bins = bins })
of-head head bins r is = ap (λ (q : Rec). q.head.key) (sym (the-record (record { head = head; bins = bins }) r is))

of-none : (key : Key) → IsOf key None
of-none key r is = absurd (cc)

write-of : (v : Volume) (f : Facts) (n : ℕ) (head : Head) (bins : List ℕ) → IsRecordOf v f n head bins → IsWriteOf v f n (Some record { head = head; bins = bins })
write-of v f n head bins it r is = subst (λ (q : Rec). IsRecordOf v f n q.head q.bins) (the-record (record { head = head; bins = bins }) r is) it

no-write : (v : Volume) (f : Facts) (n : ℕ) → IsWriteOf v f n None
no-write v f n r is = absurd (cc)

-- a node that is lost
lost : (v : Volume) (f : Facts) (n : ℕ) (g : Geometry) (s : NodeState) (losses : ℕ) (image : List ℕ → Type 0) → IsImaged v f n (record s { phase = Lost; losses = losses; held = maps.empty; undecided = None }) g image
lost v f n g s losses image = record {
  decided = λ never. refl;
  held = known-held v f n maps.empty (none-known v f n);
  pending = known-held v f n maps.empty (none-known v f n);
  each = λ there c left. absurd (there refl);
}

pub fresh-law : {D : Type 0} (image : D → List ℕ → Type 0) → IsFreshLaw image
fresh-law image v f n g d stand = emptied v f n g 0 0 (image d) stand

pub fewer-law : {D : Type 0} (image : D → List ℕ → Type 0) → IsFewerLaw image
fewer-law image v f n g s old new fewer imaged = within v f n g s (image old) (image new) fewer imaged

pub crash-law : {D : Type 0} (text : D → List ℕ) (image : D → List ℕ → Type 0) → IsCrashLaw text image
crash-law text image v f n g s old new left only imaged = within v f n g s (image old) (image new) (λ c there. subst (image old) (sym (only c there)) left) imaged

pub call-law : {D : Type 0} (text : D → List ℕ) (image : D → List ℕ → Type 0) → IsChangeLaw → ((d : D) → image d (text d)) → IsCallLaw text image
call-law text image law at v f n cells g s (ask.Keep head) (answer.Keep keep.Kept) bins bins' old new given hands leaves imaged =
    done v f n g s law (text old) (text new) (image old) (image new) (at old) (keep-up s.phase _ (sym given)) imaged
    (pending.Keep head.key (record_of head)) head.key (kept stamp_of head.base (record_of head) (held_of s.held head.key)) refl
    (Some record { head = head; bins = bins }) (of-head head bins) (write-of v f n head bins hands) leaves
call-law text image law at v f n cells g s (ask.Keep head) (answer.Keep keep.DiskFault) bins bins' old new given hands leaves imaged =
    failed v f n g s law (text old) (text new) (image old) (image new) (at old) (keep-up s.phase _ given) imaged
    (pending.Keep head.key (record_of head)) head.key (kept stamp_of head.base (record_of head) (held_of s.held head.key)) refl
    (Some record { head = head; bins = bins }) (of-head head bins) (write-of v f n head bins hands) leaves
call-law text image law at v f n cells g s (ask.Keep head) (answer.Keep _) bins bins' old new given hands leaves imaged = within v f n g s (image old) (image new) leaves imaged
call-law text image law at v f n cells g s (ask.Refill fence head) (answer.Refill refill.Kept) bins bins' old new given hands leaves imaged =
    done v f n g s law (text old) (text new) (image old) (image new) (at old) (refill-up s.phase _ (sym given)) imaged
    (pending.Refill head.key (record_of head)) head.key (refilled stamp_of (record_of head) (held_of s.held head.key)) refl
    (Some record { head = head; bins = bins }) (of-head head bins) (write-of v f n head bins hands) leaves
call-law text image law at v f n cells g s (ask.Refill fence head) (answer.Refill refill.DiskFault) bins bins' old new given hands leaves imaged =
    failed v f n g s law (text old) (text new) (image old) (image new) (at old) (refill-up s.phase _ given) imaged
    (pending.Refill head.key (record_of head)) head.key (refilled stamp_of (record_of head) (held_of s.held head.key)) refl
    (Some record { head = head; bins = bins }) (of-head head bins) (write-of v f n head bins hands) leaves
call-law text image law at v f n cells g s (ask.Refill fence head) (answer.Refill _) bins bins' old new given hands leaves imaged = within v f n g s (image old) (image new) leaves imaged
call-law text image law at v f n cells g s (ask.Fetch key position stamp) (answer.Fetch fetch.DiskFault) bins bins' old new given hands leaves imaged =
    downs v f n g s (image old) (image new) leaves.0 (fetch-up s.phase _ given.0 given.1) imaged
call-law text image law at v f n cells g s (ask.Fetch key position stamp) (answer.Fetch _) bins bins' old new given hands leaves imaged = within v f n g s (image old) (image new) leaves.0 imaged
call-law text image law at v f n cells g s (ask.Drop fid) (answer.Drop (drop.Dropped block stamp more)) bins bins' old new given hands leaves imaged =
    done v f n g s law (text old) (text new) (image old) (image new) (at old) (drop-up s.phase _ block stamp more (sym given)) imaged
    (pending.Drop (key_at fid block) stamp) (key_at fid block) (without stamp_of stamp (held_of s.held (key_at fid block))) refl
    None (of-none (key_at fid block)) (no-write v f n) leaves
call-law text image law at v f n cells g s (ask.Drop fid) (answer.Drop (drop.DiskFault block stamp)) bins bins' old new given hands leaves imaged =
    failed v f n g s law (text old) (text new) (image old) (image new) (at old) (drop-up s.phase _ block stamp given.0 given.1) imaged
    (pending.Drop (key_at fid block) stamp) (key_at fid block) (without stamp_of stamp (held_of s.held (key_at fid block))) refl
    None (of-none (key_at fid block)) (no-write v f n) leaves
call-law text image law at v f n cells g s (ask.Drop fid) (answer.Drop _) bins bins' old new given hands leaves imaged = within v f n g s (image old) (image new) leaves imaged
call-law text image law at v f n cells g s ask.Probe (answer.Probe a) bins bins' old new given hands leaves imaged = within v f n g s (image old) (image new) leaves imaged
call-law text image law at v f n cells g s ask.Stop (answer.Stop true) bins bins' old new given hands leaves imaged =
    stopped v f n g s (image old) (image new) leaves (stop-up s.phase (sym given)) imaged
call-law text image law at v f n cells g s ask.Stop (answer.Stop false) bins bins' old new given hands leaves imaged = within v f n g s (image old) (image new) leaves imaged
call-law text image law at v f n cells g s ask.Start (answer.Start (start.Started took)) bins bins' old new given hands leaves imaged =
    started v f n g s (text old) (text new) (image old) (image new) (at old) given.0 imaged took given.1 leaves
call-law text image law at v f n cells g s ask.Start (answer.Start _) bins bins' old new given hands leaves imaged = within v f n g s (image old) (image new) leaves imaged
call-law text image law at v f n cells g s ask.Lose (answer.Lose (Some losses)) bins bins' old new given hands leaves imaged = lost v f n g s losses (image new)
call-law text image law at v f n cells g s ask.Lose (answer.Lose None) bins bins' old new given hands leaves imaged = within v f n g s (image old) (image new) leaves imaged
call-law text image law at v f n cells g s (ask.Replace loss fence) (answer.Replace replace.Replaced) bins bins' old new given hands leaves imaged =
    renewed v f n g s.losses fence (text new) (image new) leaves.0 leaves.1
call-law text image law at v f n cells g s (ask.Replace loss fence) (answer.Replace replace.DiskFault) bins bins' old new given hands leaves imaged =
    broken v f n g s (image old) (image new) (replace-lost s.phase (loss == s.losses) s.losses given) imaged
call-law text image law at v f n cells g s (ask.Replace loss fence) (answer.Replace replace.NoMemory) bins bins' old new given hands leaves imaged =
    broken v f n g s (image old) (image new) (replace-lost s.phase (loss == s.losses) s.losses given) imaged
call-law text image law at v f n cells g s (ask.Replace loss fence) (answer.Replace _) bins bins' old new given hands leaves imaged = within v f n g s (image old) (image new) leaves imaged
call-law text image law at v f n cells g s question other bins bins' old new given hands leaves imaged = absurd given
