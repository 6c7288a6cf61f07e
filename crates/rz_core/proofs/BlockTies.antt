-- The blocks of live files: what the export keeps of them is what the log says.
use Rattle.std.proofs.Common.{ℕ, Bool, true, false, not, ◌==◌, ◌≡◌, ◌<◌, ◌+◌, ◌-◌, ◌^◌, nat_lt, List, [], ◌∷◌, length, Option, Some, None, cond, refl, sym, ◌∙◌, ap, subst, arith, ◌&&◌, ◌||◌}
use Rattle.std.specs.Option.{option_map_or, option_and_then}
use Rattle.std.specs.FinMap as maps
use Rattle.std.specs.Ordering.{nat_cmp, is_eq, eq_by_cmp, ordering_then}
use Rattle.std.specs.declared.cmp.Ordering.{Ordering}
use Rattle.std.specs.declared.cmp.Ordering.TheVariants.{Less, Equal, Greater}
use Rattle.std.specs.Cmp.{unsigned_tied}
use Rattle.std.proofs.lemmas.Bool.{and_parts, and_from, or_parts, not-true, not_from_false}
use Rattle.rz_events.specs.Volume.{Volume}
use Rattle.rz_events.specs.Keys.{key_cmp, keys_total, exact_keys}
use Rattle.rz_events.specs.declared.keys.Key.{Key}
use Rattle.rz_events.specs.declared.keys.Actor.{Actor}
use Rattle.rz_events.specs.declared.files.Published.{Published}
use Rattle.rz_events.specs.declared.tree.TreeCall.{TreeCall}
use Rattle.rz_events.specs.declared.tree.TreeReply.{TreeReply}
use Rattle.rz_events.specs.declared.tree.TreeReply.TheVariants as told
use Rattle.rz_events.specs.declared.events.Event.{Event}
use Rattle.rz_events.specs.declared.events.Event.TheVariants as e
use Rattle.rz_events.specs.Events.{same_key}
use Rattle.rz_export_model.specs.Export.{Export as ExportState, Block, Blocks, latest_of, published_of, published_stamp, newer_of, without_file, blocks_after, draws, after_enroll}
use Rattle.rz_core.specs.History.{Facts, length_in}
use Rattle.rz_export_model.specs.Files.{makes, ends}
use Rattle.rz_core.specs.ExportWord.{is_made, is_gone, is_live, latest, accepted, is_newer, with_length, published, stamp_in, export_of}
use Rattle.rz_core.specs.ExportRows.{MetaRow}
use Rattle.rz_core.proofs.NodeLaws.{IsRows}
use Rattle.rz_core.proofs.Stamps.{same_key-true}
use Rattle.rz_core.proofs.EnrollLaws.{enrols}

-- what the export has of a key's block is what the log says
pub record Ties (f : Facts) (w : List Event) (key : Key) (o : Option Block) : Type 0 where
  pub begun : option_map_or (λ (b : Block). b.latest) o 0 ≡ latest w key
  pub told : option_and_then (λ (b : Block). b.published) o ≡ published f w key

-- of a key whose file was not made there is nothing
record Fresh (w : List Event) (key : Key) (o : Option Block) : Type 0 where
  none : o ≡ None
  begun : latest w key ≡ 0
  never : accepted w key ≡ None

-- the order of keys tells the same ones
then_tied : (o p : Ordering) → is_eq (ordering_then o p) ≡ (is_eq o && is_eq p)
then_tied Less p = refl
then_tied Equal p = refl
then_tied Greater p = refl

key_tied : (a b : Key) → eq_by_cmp key_cmp a b ≡ same_key a b
key_tied a b =
    then_tied (nat_cmp a.fid b.fid) (nat_cmp a.block b.block)
    ∙ ap (λ t. t && is_eq (nat_cmp a.block b.block)) (unsigned_tied a.fid b.fid)
    ∙ ap (λ t. (a.fid == b.fid) && t) (unsigned_tied a.block b.block)

get_insert : (m : Blocks) (at key : Key) (b : Block) → maps.get (maps.insert m at b) key ≡ cond (same_key key at) (Some b) (maps.get m key)
get_insert m at key b = maps.get-insert keys_total m at b key ∙ ap (λ t. cond t (Some b) (maps.get m key)) (key_tied key at)

get_without : (m : Blocks) (fid : ℕ) (key : Key) → maps.get (without_file m fid) key ≡ cond (not (key.fid == fid)) (maps.get m key) None
get_without m fid key = maps.get-retain_keys m (λ k. not (k.fid == fid)) key (λ k is. ap (λ (y : Key). not (y.fid == fid)) (sym (exact_keys key k is)))

-- a call on names takes away the blocks of the file that ends with it alone
others_stay : (m : Blocks) (r : TreeReply) (key : Key) → ends r key.fid ≡ false → maps.get (blocks_after m r) key ≡ maps.get m key
others_stay m (told.Gone (Some info)) key other = get_without m info.fid key ∙ ap (λ t. cond (not t) (maps.get m key) None) other
others_stay m (_) key other = refl

none_stays : (m : Blocks) (r : TreeReply) (key : Key) → maps.get m key ≡ None → maps.get (blocks_after m r) key ≡ None
none_stays m (told.Gone (Some info)) key none = get_without m info.fid key ∙ ap (λ o. cond (not (key.fid == info.fid)) o None) none ∙ both (not (key.fid == info.fid))
  where
    both : (t : Bool) → (let o : Option Block = cond t None None in o) ≡ None
    both true = refl
    both false = refl
none_stays m (_) key none = none

after_names : (v : Volume) (f : Facts) (w : List Event) (by : Actor) (c : TreeCall) (r : TreeReply) → MetaRow v f w c r → (key : Key)
    → maps.get (export_of v f (e.Meta by c r ∷ w)).blocks key ≡ maps.get (blocks_after (export_of v f w).blocks r) key
after_names v f w by c r row key = ap (λ z. maps.get (blocks_after (export_of v f w).blocks z) key) (sym row.told)

enroll_blocks : (s : ExportState) (node loss : ℕ) → (after_enroll s node loss).blocks ≡ s.blocks
enroll_blocks s node loss = go (draws s loss (maps.get s.enrolled node))
  where
    new : ExportState
    new = record s { enrolled = maps.insert s.enrolled node (record { loss = loss; fence = s.last + 1 }); last = s.last + 1 }

    go : (t : Bool) → (cond t new s).blocks ≡ s.blocks
    go true = refl
    go false = refl

-- the key is of a file that was not made, and another one's is
other_key : (w : List Event) (at key : Key) → is_live w at.fid ≡ true → is_made w key.fid ≡ false → same_key key at ≡ false
other_key w at key live unmade = go (same_key key at) refl
  where
    go : (t : Bool) → same_key key at ≡ t → t ≡ false
    go true is =
        let there = (and_parts (is_made w at.fid) (not (is_gone w at.fid)) live).0 in
        let same = ap (λ (k : Key). is_made w k.fid) (same_key-true key at is) in cc
    go false is = refl

fresh : (v : Volume) (f : Facts) (w : List Event) → IsRows v f w → (key : Key) → is_made w key.fid ≡ false → Fresh w key (maps.get (export_of v f w).blocks key)
fresh v f [] r key unmade = record { none = maps.get-empty key_cmp key; begun = refl; never = refl }
fresh v f (e.Meta by c given ∷ w) r key unmade =
    let i = fresh v f w r.0 key (or_parts (makes given key.fid) (is_made w key.fid) unmade).1 in
    record {
      none = after_names v f w by c given r.1.2 key ∙ none_stays (export_of v f w).blocks given key i.none;
      begun = i.begun;
      never = i.never;
    }
fresh v f (e.Begin by at stamp base text ∷ w) r key unmade =
    let i = fresh v f w r.0 key unmade in
    let s = export_of v f w in
    let b : Block = record { latest = s.last + 1; published = published_of s.blocks at } in
    let other = other_key w at key r.1.2.live unmade in
    record {
      none = get_insert s.blocks at key b ∙ ap (λ t. cond t (Some b) (maps.get s.blocks key)) other ∙ i.none;
      begun = ap (λ t. cond t stamp (latest w key)) other ∙ i.begun;
      never = i.never;
    }
fresh v f (e.Publish by at stamp mask None ∷ w) r key unmade =
    let i = fresh v f w r.0 key unmade in
    let m = (export_of v f w).blocks in
    let p : Published = record { stamp = stamp; mask = mask; length = length_in (f.wrote stamp) } in
    let b : Block = record { latest = latest_of m at; published = Some (newer_of (published_of m at) p) } in
    let other = other_key w at key r.1.2.publishable.live unmade in
    record {
      none = get_insert m at key b ∙ ap (λ t. cond t (Some b) (maps.get m key)) other ∙ i.none;
      begun = i.begun;
      never = ap (λ t. cond (t && is_newer stamp (accepted w key)) (Some (stamp, mask)) (accepted w key)) other ∙ i.never;
    }
fresh v f (e.Enroll by node loss fence ∷ w) r key unmade =
    let i = fresh v f w r.0 key unmade in
    record {
      none = ap (λ (m : Blocks). maps.get m key) (enroll_blocks (export_of v f w) node loss) ∙ i.none;
      begun = i.begun;
      never = i.never;
    }
fresh v f (x ∷ w) r key unmade =
    let i = fresh v f w r.0 key unmade in record { none = i.none; begun = i.begun; never = i.never }

fresh_ties : (f : Facts) (w : List Event) (key : Key) (o : Option Block) → Fresh w key o → Ties f w key o
fresh_ties f w key o i = record {
  begun = ap (λ (z : Option Block). option_map_or (λ (b : Block). b.latest) z 0) i.none ∙ sym i.begun;
  told = ap (λ (z : Option Block). option_and_then (λ (b : Block). b.published) z) i.none ∙ sym (ap (with_length f) i.never);
}

-- a begin
module _ (f : Facts) (w : List Event) (m : Blocks) (at key : Key) (stamp : ℕ) (i : Ties f w key (maps.get m key)) where
  begin_latest : (new : ℕ) → new ≡ stamp → (t : Bool) (p : Option Published)
      → option_map_or (λ (b : Block). b.latest) (cond t (Some (record { latest = new; published = p })) (maps.get m key)) 0 ≡ cond t stamp (latest w key)
  begin_latest new is true p = is
  begin_latest new is false p = i.begun

  begin_told : (new : ℕ) (t : Bool) → same_key key at ≡ t
      → option_and_then (λ (b : Block). b.published) (cond t (Some (record { latest = new; published = published_of m at })) (maps.get m key)) ≡ published f w key
  begin_told new true is = ap (published_of m) (sym (same_key-true key at is)) ∙ i.told
  begin_told new false is = i.told

  -- an accepted publish
  publish_latest : (t : Bool) → same_key key at ≡ t → (p : Option Published)
      → option_map_or (λ (b : Block). b.latest) (cond t (Some (record { latest = latest_of m at; published = p })) (maps.get m key)) 0 ≡ latest w key
  publish_latest true is p = ap (latest_of m) (sym (same_key-true key at is)) ∙ i.begun
  publish_latest false is p = i.begun

  newer : (mask : ℕ) (a : Option (ℕ × ℕ))
      → Some (newer_of (with_length f a) (record { stamp = stamp; mask = mask; length = length_in (f.wrote stamp) }))
      ≡ with_length f (cond (is_newer stamp a) (Some (stamp, mask)) a)
  newer mask None = refl
  newer mask (Some a) = go (nat_lt a.0 stamp)
    where
      go : (t : Bool) → (let o : Option Published =
          Some (cond t (record { stamp = stamp; mask = mask; length = length_in (f.wrote stamp) }) (record { stamp = a.0; mask = a.1; length = length_in (f.wrote a.0) })) in o)
          ≡ with_length f (cond t (Some (stamp, mask)) (Some a))
      go true = refl
      go false = refl

  publish_told : (mask : ℕ) (t : Bool) → same_key key at ≡ t
      → option_and_then (λ (b : Block). b.published)
      (cond t
      (Some (record { latest = latest_of m at; published = Some (newer_of (published_of m at) (record { stamp = stamp; mask = mask; length = length_in (f.wrote stamp) })) }))
      (maps.get m key))
      ≡ with_length f (cond (t && is_newer stamp (accepted w key)) (Some (stamp, mask)) (accepted w key))
  publish_told mask true is =
      ap (λ (o : Option Published). Some (newer_of o (record { stamp = stamp; mask = mask; length = length_in (f.wrote stamp) }))) (ap (published_of m) (sym (same_key-true key at is)) ∙ i.told)
      ∙ newer mask (accepted w key)
  publish_told mask false is = i.told

-- a call on names, after which the file is live: it was so before, or it is made by the call
names_ties : (v : Volume) (f : Facts) (w : List Event) (c : TreeCall) (given : TreeReply) → IsRows v f w → MetaRow v f w c given → (key : Key)
    → ((makes given key.fid || is_made w key.fid) && not (ends given key.fid || is_gone w key.fid)) ≡ true
    → (is_live w key.fid ≡ true → Ties f w key (maps.get (export_of v f w).blocks key))
    → (o : Option Block) → o ≡ maps.get (blocks_after (export_of v f w).blocks given) key → Ties f w key o
names_ties v f w c given r row key live old o is =
    let m = (export_of v f w).blocks in
    let p = and_parts _ _ live in
    let q = or_parts (ends given key.fid) (is_gone w key.fid) (not-true _ p.1) in
    subst (Ties f w key) (sym (is ∙ others_stay m given key q.0)) (go q.1 (is_made w key.fid) refl)
  where
    go : is_gone w key.fid ≡ false → (t : Bool) → is_made w key.fid ≡ t → Ties f w key (maps.get (export_of v f w).blocks key)
    go gone true made = old (and_from _ _ made (not_from_false _ gone))
    go gone false unmade = fresh_ties f w key (maps.get (export_of v f w).blocks key) (fresh v f w r key unmade)

pub ties : (v : Volume) (f : Facts) (w : List Event) → IsRows v f w → length w < 2 ^ 64 - 1 → (key : Key) → is_live w key.fid ≡ true → Ties f w key (maps.get (export_of v f w).blocks key)
ties v f [] r few key live = cc
ties v f (e.Meta by c given ∷ w) r few key live =
    let i = names_ties v f w c given r.0 r.1.2 key live (λ l. ties v f w r.0 (omega (arith, few)) key l) _ (after_names v f w by c given r.1.2 key) in
    record { begun = i.begun; told = i.told }
ties v f (e.Begin by at stamp base text ∷ w) r few key live =
    let i = ties v f w r.0 (omega (arith, few)) key live in
    let s = export_of v f w in
    let b : Block = record { latest = s.last + 1; published = published_of s.blocks at } in
    let last = (enrols v f w r.0 (omega (arith, few))).last in
    let next = r.1.2.next in
    record {
      begun = ap (λ o. option_map_or (λ (z : Block). z.latest) o 0) (get_insert s.blocks at key b)
          ∙ begin_latest f w s.blocks at key stamp i (s.last + 1) (omega (arith, last, next)) (same_key key at) (published_of s.blocks at);
      told = ap (λ o. option_and_then (λ (z : Block). z.published) o) (get_insert s.blocks at key b) ∙ begin_told f w s.blocks at key stamp i (s.last + 1) (same_key key at) refl;
    }
ties v f (e.Publish by at stamp mask None ∷ w) r few key live =
    let i = ties v f w r.0 (omega (arith, few)) key live in
    let m = (export_of v f w).blocks in
    let p : Option Published = Some (newer_of (published_of m at) (record { stamp = stamp; mask = mask; length = length_in (f.wrote stamp) })) in
    let b : Block = record { latest = latest_of m at; published = p } in
    record {
      begun = ap (λ o. option_map_or (λ (z : Block). z.latest) o 0) (get_insert m at key b) ∙ publish_latest f w m at key stamp i (same_key key at) refl p;
      told = ap (λ o. option_and_then (λ (z : Block). z.published) o) (get_insert m at key b) ∙ publish_told f w m at key stamp i mask (same_key key at) refl;
    }
ties v f (e.Enroll by node loss fence ∷ w) r few key live =
    let i = ties v f w r.0 (omega (arith, few)) key live in
    let same = ap (λ (m : Blocks). maps.get m key) (enroll_blocks (export_of v f w) node loss) in
    record {
      begun = ap (λ o. option_map_or (λ (z : Block). z.latest) o 0) same ∙ i.begun;
      told = ap (λ o. option_and_then (λ (z : Block). z.published) o) same ∙ i.told;
    }
ties v f (x ∷ w) r few key live =
    let i = ties v f w r.0 (omega (arith, few)) key live in record { begun = i.begun; told = i.told }

-- the base of a write that begins now
pub base-is : (f : Facts) (w : List Event) (key : Key) (blocks : Blocks) → Ties f w key (maps.get blocks key) → published_stamp blocks key ≡ stamp_in (accepted w key)
base-is f w key blocks i = ap (λ (o : Option Published). option_map_or (λ (p : Published). p.stamp) o 0) i.told ∙ go (accepted w key)
  where
    go : (a : Option (ℕ × ℕ)) → option_map_or (λ (p : Published). p.stamp) (with_length f a) 0 ≡ stamp_in a
    go None = refl
    go (Some a) = refl
