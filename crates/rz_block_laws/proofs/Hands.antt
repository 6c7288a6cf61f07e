-- What an operation hands to a node.
use Rattle.std.proofs.Common.{◌≡◌, ℕ, Bool, true, false, cond, nat_lt, ◌+◌, ◌<◌, ◌≤◌, List, length, Option, Some, None, refl, sym, ◌∙◌, ap, subst, arith}
use Rattle.std.specs.Prelude.{slice_index, IsSomeAnd}
use Rattle.std.proofs.lemmas.Bool.{ltb-true}
use Rattle.std.proofs.lemmas.Option.{slice_get-get_or}
use Rattle.mj_angles.specs.declared.layout.Layout.{Layout}
use Rattle.mj_angles.specs.Layout.{bsize_of, forward_of, safe_of, angle_of}
use Rattle.mj_forward.specs.Forward.{projection_of}
use Rattle.mj_inverse.specs.Fits.{Pair}
use Rattle.rz_words.specs.Grid.{Grid}
use Rattle.rz_events.specs.Volume.{Volume}
use Rattle.rz_events.specs.declared.keys.Key.{Key}
use Rattle.rz_events.specs.declared.keys.Actor.{Actor}
use Rattle.rz_events.specs.declared.files.Listed.{Listed}
use Rattle.rz_events.specs.declared.ends.ReadMark.{ReadMark}
use Rattle.rz_events.specs.declared.ends.WriteEnd.{WriteEnd}
use Rattle.rz_events.specs.declared.nodes.NodeAsk.{NodeAsk}
use Rattle.rz_events.specs.declared.nodes.NodeAsk.TheVariants as ask
use Rattle.rz_events.specs.declared.machines.ReaderAsk.{ReaderAsk}
use Rattle.rz_events.specs.declared.machines.ReaderAsk.TheVariants as reads
use Rattle.rz_events.specs.declared.events.Event.{Event}
use Rattle.rz_client_model.specs.declared.writing.WriterState.{WriterState}
use Rattle.rz_client_model.specs.declared.writing.WriteStage.{WriteStage}
use Rattle.rz_client_model.specs.declared.writing.WriteStage.TheVariants.{Beginning, Sending, Ended}
use Rattle.rz_client_model.specs.declared.writing.SentRecords.{SentRecords}
use Rattle.rz_client_model.specs.Write.{ask_at, next_position, mask_of, writer_end}
use Rattle.rz_client_model.specs.Read.{reader_ask, reader_end}
use Rattle.rz_events.specs.declared.machines.WriterAsk.TheVariants as writes
use Rattle.rz_operation_model.specs.Work.{Work, RangePlan, WriteBytes, ReadBytes, Course, Calling, Dropping, Opening, Locking, Writing, Reading, Rebuilding, Ending, Over}
use Rattle.rz_operation_model.specs.Rebuild.{Tally, Probing, Enrolling, Replacing, Listing, Copying, Refilling, Leaving, position_of, ask_to_copy}
use Rattle.rz_operation_model.specs.Ask.{AskNode, ask_of, is_part, got, gave, read_asks, write_asks, rebuild_asks, lock_asks, head_of, refill_head}
use Rattle.rz_operation.specs.Machine.{Machine, HasBinsFor, AreBinsFor}
use Rattle.rz_core.specs.History.{Facts, Begun, length_in, base_in}
use Rattle.rz_core.specs.HeldRecords.{block_of, head_at}
use Rattle.rz_play_laws.specs.Own.{IsOwnOf, HasWriteEvents, IsSending, IsWriteStage, IsFilling}
use Rattle.rz_node_laws.specs.Records.{HandsRecord, IsRecordOf}
use Rattle.rz_node_laws.specs.Laws.{IsWrittenLaw}
use Rattle.rz_block_laws.specs.InHand.{IsInHand, IsWriteBlock}
use Rattle.rz_block_laws.specs.Laws.{IsHandingLaw}

-- ---- what is asked of a node

pub asks-node : (n m : ℕ) (p q : NodeAsk) → AskNode n p ≡ AskNode m q → n ≡ m
asks-node n m p q is = cc

pub asks-question : (n m : ℕ) (p q : NodeAsk) → AskNode n p ≡ AskNode m q → p ≡ q
asks-question n m p q is = cc

pub got-no-node : (part : Bool) (key : Key) (e : Option ReadMark) (n : ℕ) (q : NodeAsk) → got part key e ≡ AskNode n q → ⊥
got-no-node part key None n q is = absurd (cc)
got-no-node part key (Some mark) n q is = absurd (cc)

pub gave-no-node : (part : Bool) (key : Key) (e : Option WriteEnd) (n : ℕ) (q : NodeAsk) → gave part key e ≡ AskNode n q → ⊥
gave-no-node part key None n q is = absurd (cc)
gave-no-node part key (Some mark) n q is = absurd (cc)

pub lock-no-node : (y : Layout) (path : List ℕ) (plan : RangePlan) (n : ℕ) (q : NodeAsk) → lock_asks y path plan ≡ AskNode n q → ⊥
lock-no-node y path (WriteBytes offset bytes) n q is = absurd (cc)
lock-no-node y path (ReadBytes offset count) n q is = absurd (cc)

-- ---- a call that hands no record in

module _ (v : Volume) (f : Facts) (n : ℕ) (question : NodeAsk) (bins : List ℕ) where
  fetch-hands : (m : ℕ) (key : Key) (position stamp : ℕ) → AskNode m (ask.Fetch key position stamp) ≡ AskNode n question → HandsRecord v f n question bins
  fetch-hands m key position stamp is = subst (λ (q : NodeAsk). HandsRecord v f n q bins) (asks-question m n (ask.Fetch key position stamp) question is) tt

  reading : (part : Bool) (key : Key) (e : Option ReadMark) (a : ReaderAsk) → read_asks part key e a ≡ AskNode n question → HandsRecord v f n question bins
  reading part key e reads.Look is = absurd (cc)
  reading part key e (reads.Fetch position m stamp) is = fetch-hands m key position stamp is
  reading part key e reads.Recheck is = absurd (cc)
  reading part key e reads.End is = absurd (got-no-node part key e n question is)

  copying : (y : Layout) (m : ℕ) (key : Key) (a : ReaderAsk) → rebuild_asks y m (ask_to_copy key a) ≡ AskNode n question → HandsRecord v f n question bins
  copying y m key reads.Look is = absurd (cc)
  copying y m key (reads.Fetch position from stamp) is = fetch-hands from key position stamp is
  copying y m key reads.Recheck is = absurd (cc)
  copying y m key reads.End is = absurd (cc)

-- ---- a writer's record

sent-few : (kept failed forward safe many : ℕ) → kept < forward → failed + forward ≤ safe → many ≡ safe → kept + failed < many
sent-few kept failed forward safe many few spare is = omega arith

module _ (law : IsWrittenLaw) (v : Volume) (f : Facts) (o run : List Event) (by : Actor) (text : List ℕ) (s : WriterState) (own : HasWriteEvents v f o by text s) (t : SentRecords) (sending : IsSending v f o by s.key s.places text t) where
  abbrev position : ℕ
  position = next_position t

  abbrev node : ℕ
  node = slice_index s.places position

  abbrev begun : Begun
  begun = record { by = by; key = s.key; base = t.base; text = text }

  same-head : head_of s position t.stamp t.base ≡ head_at v.layout t.stamp begun position
  same-head = λ i. record { stamp = t.stamp; key = s.key; layout = own.layout_is i; bsize = bsize_of (own.layout_is i); position = position; length = own.size i; base = t.base }

  few : nat_lt t.kept (forward_of s.layout) ≡ true → position < length s.places
  few is =
      let less : t.kept < forward_of v.layout = subst (λ (y : Layout). t.kept < forward_of y) own.layout_is (ltb-true t.kept (forward_of s.layout) is) in
      sent-few t.kept t.failed (forward_of v.layout) (safe_of v.layout) (length s.places) less sending.spare own.placing.many

  pub sends : (bins : List ℕ) → nat_lt t.kept (forward_of s.layout) ≡ true → bins ≡ projection_of (block_of v.layout text) (angle_of v.layout position) → IsRecordOf v f node (head_of s position t.stamp t.base) bins
  sends bins less are = law v f node (head_of s position t.stamp t.base) bins record {
    begun = begun;
    places = s.places;
    wrote = sending.wrote;
    head_is = same-head;
    bins_are = are;
    placed = own.placing.placed;
    at = slice_get-get_or s.places position 0 (few less);
    apart = own.placing.apart;
  }

-- ---- a rebuilder's record

module _ (law : IsWrittenLaw) (v : Volume) (f : Facts) (o : List Event) (by : Actor) (n : ℕ) (t : Tally) (l : Listed) (size base : ℕ) (own : IsFilling v f o by n t l size base) (g : Grid) (block : IsWriteBlock v.layout f l.key l.published.stamp g) where
  size-is : size ≡ length block.begun.text
  size-is = own.first.length_is ∙ ap length_in block.wrote

  base-is : base ≡ block.begun.base
  base-is = own.first.base_is ∙ ap base_in block.wrote

  pub refills : (y : Layout) → y ≡ v.layout → (bins : List ℕ) → bins ≡ projection_of g (angle_of y (position_of n l)) → IsRecordOf v f n (refill_head y (position_of n l) l.published.stamp size base l.key) bins
  refills y layout bins are = law v f n (refill_head y (position_of n l) l.published.stamp size base l.key) bins record {
    begun = block.begun;
    places = l.info.places;
    wrote = block.wrote;
    head_is = λ i. record { stamp = l.published.stamp; key = sym block.key_is i; layout = layout i; bsize = bsize_of (layout i); position = position_of n l; length = size-is i; base = base-is i };
    bins_are = are ∙ ap (λ (h : Grid). projection_of h (angle_of y (position_of n l))) block.block_is ∙ ap (λ (z : Layout). projection_of (block_of v.layout block.begun.text) (angle_of z (position_of n l))) layout;
    placed = own.listed.placing.placed;
    at = own.listed.at;
    apart = own.listed.placing.apart;
  }

-- ---- any operation

module _ (law : IsWrittenLaw) (v : Volume) (f : Facts) (o run : List Event) (by : Actor) (y : Layout) (layout : y ≡ v.layout) (pairs : List Pair) (n : ℕ) (question : NodeAsk) (bins : List ℕ) where
  abbrev machine : Work → Option Grid → Machine
  machine work block = record { layout = y; work = work; pairs = pairs; block = block }

  abbrev Are : Work → Option Grid → Type 0
  Are work block = HasBinsFor question → AreBinsFor (machine work block) question bins

  handed : (m : ℕ) (q : NodeAsk) → AskNode m q ≡ AskNode n question → HandsRecord v f m q bins → HandsRecord v f n question bins
  handed m q is hands =
      subst (λ (a : NodeAsk). HandsRecord v f n a bins) (asks-question m n q question is)
      (subst (λ (k : ℕ). HandsRecord v f k q bins) (asks-node m n q question is) hands)

  are-for : (m : ℕ) (q : NodeAsk) (work : Work) (block : Option Grid) → AskNode m q ≡ AskNode n question → Are work block → HasBinsFor q → AreBinsFor (machine work block) q bins
  are-for m q work block is are = subst (λ (a : NodeAsk). HasBinsFor a → AreBinsFor (machine work block) a bins) (sym (asks-question m n q question is)) are

  writing : (course : Course) (text : List ℕ) (s : WriterState) (block : Option Grid) → HasWriteEvents v f o by text s → (stage : WriteStage) → IsWriteStage v f o by s.key s.places text stage
      → write_asks (is_part course) text s (ask_at s stage) ≡ AskNode n question → Are (Writing course text s) block → HandsRecord v f n question bins
  writing course text s block own Beginning sending is are = absurd (cc)
  writing course text s block own (Ended e) sending is are = absurd (gave-no-node (is_part course) s.key (writer_end s) n question is)
  writing course text s block own (Sending t) sending is are = go (nat_lt t.kept (forward_of s.layout)) refl is
    where
      go : (b : Bool) → nat_lt t.kept (forward_of s.layout) ≡ b
          → write_asks (is_part course) text s (cond b (writes.Keep (next_position t) (slice_index s.places (next_position t)) t.stamp t.base) (writes.Publish t.stamp (mask_of t.why))) ≡ AskNode n question
          → HandsRecord v f n question bins
      go true less asked =
          let q = ask.Keep (head_of s (next_position t) t.stamp t.base) in
          let here = are-for (slice_index s.places (next_position t)) q (Writing course text s) block asked are tt in
          handed (slice_index s.places (next_position t)) q asked
          (sends law v f o run by text s own t sending bins less (here ∙ ap (λ (z : Layout). projection_of (block_of z text) (angle_of z (next_position t))) layout))
      go false less asked = absurd (cc)

  refilling : (m : ℕ) (t : Tally) (l : Listed) (size base : ℕ) (block : Option Grid) → IsFilling v f o by m t l size base → IsSomeAnd block (IsWriteBlock v.layout f l.key l.published.stamp)
      → AskNode m (ask.Refill t.fence (refill_head y (position_of m l) l.published.stamp size base l.key)) ≡ AskNode n question → Are (Rebuilding m (Refilling t l size base)) block → HandsRecord v f n question bins
  refilling m t l size base None own hand is are = absurd hand
  refilling m t l size base (Some g) own hand is are =
      let q = ask.Refill t.fence (refill_head y (position_of m l) l.published.stamp size base l.key) in
      handed m q is (refills law v f o by m t l size base own g hand y layout bins (are-for m q (Rebuilding m (Refilling t l size base)) (Some g) is are tt))

  pub hands : (work : Work) (block : Option Grid) → IsOwnOf v f o run by work → IsInHand v.layout f work pairs block → ask_of y work ≡ AskNode n question → Are work block → HandsRecord v f n question bins
  hands (Calling c) block own hand is are = absurd (cc)
  hands (Dropping fid m places) block own hand is are = handed m (ask.Drop fid) is tt
  hands (Opening path plan) block own hand is are = absurd (cc)
  hands (Locking path plan) block own hand is are = absurd (lock-no-node y path plan n question is)
  hands (Writing course text s) block own hand is are = writing course text s block own.1 s.stage own.1.stage is are
  hands (Reading course s) block own hand is are = reading v f n question bins (is_part course) s.key (reader_end s) (reader_ask s) is
  hands (Rebuilding m Probing) block own hand is are = handed m ask.Probe is tt
  hands (Rebuilding m (Enrolling loss)) block own hand is are = absurd (cc)
  hands (Rebuilding m (Replacing loss fence)) block own hand is are = handed m (ask.Replace loss fence) is tt
  hands (Rebuilding m (Listing t)) block own hand is are = absurd (cc)
  hands (Rebuilding m (Copying t l base s)) block own hand is are = copying v f n question bins y m l.key (reader_ask s) is
  hands (Rebuilding m (Refilling t l size base)) block own hand is are = refilling m t l size base block own.1.1 hand is are
  hands (Rebuilding m (Leaving t key why)) block own hand is are = absurd (cc)
  hands (Ending answer) block own hand is are = absurd (cc)
  hands Over block own hand is are = absurd (cc)

pub handing-law : IsWrittenLaw → (v : Volume) → IsHandingLaw v
handing-law law v f o run by m n question bins true_to is are = hands law v f o run by m.layout true_to.layout_is m.pairs n question bins m.work m.block true_to.own true_to.hand is are
