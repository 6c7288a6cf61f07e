-- What each call keeps of the files, the blocks and the enrolments of an export.
use Rattle.std.proofs.Common.{◌≡◌, ℕ, suc, ◌+◌, ◌*◌, ◌≤◌, ◌<◌, inl, inr, ◌&&◌, Bool, true, false, cond, Option, Some, None, is_some, IfSome, Ordering, sym, ap, ◌∙◌, subst, refl, arith, mul-le-mul_right, suc-mul}
use Rattle.std.specs.Prelude.{nat_le, nat_lt}
use Rattle.std.specs.declared.cmp.Ordering.TheVariants.{Less, Equal, Greater}
use Rattle.std.specs.Option.{option_map_or, option_and_then}
use Rattle.std.specs.Ordering.{nat_cmp, is_lt}
use Rattle.std.specs.Cmp.{nat_cmp_total, ranked}
use Rattle.std.specs.FinMap as maps
use Rattle.std.specs.FinMap.{FinMap, nat_cmp-IsAntisymmetric}
use Rattle.std.proofs.lemmas.Bool.{and_parts, leb-true, le-leb}
use Rattle.mj_angles.specs.Layout.{block_bytes_of}
use Rattle.rz_events.specs.Volume.{Volume, IsVolume}
use Rattle.rz_events.specs.Keys.{keys_total, exact_keys}
use Rattle.rz_events.specs.declared.keys.Key.{Key}
use Rattle.rz_events.specs.declared.files.FileInfo.{FileInfo}
use Rattle.rz_events.specs.declared.files.Published.{Published}
use Rattle.rz_events.specs.declared.ends.Denial.{Denial}
use Rattle.rz_events.specs.declared.ends.Denial.TheVariants as denial
use Rattle.rz_events.specs.declared.tree.TreeCall.{TreeCall}
use Rattle.rz_events.specs.declared.export.Call.{Call}
use Rattle.rz_events.specs.declared.export.Call.TheVariants as call
use Rattle.rz_events.specs.declared.export.Reply.{Reply}
use Rattle.rz_events.specs.declared.export.Reply.TheVariants as reply
use Rattle.rz_export_model.specs.Firsts.{given_if}
use Rattle.rz_export_model.specs.Tree.{Tree, Object, file_of, file_from, info_of, is_file, grown}
use Rattle.rz_export_model.specs.TreeCalls.{reply_to}
use Rattle.rz_export_model.specs.Export.{Export, Block, Blocks, Enrolled, new_places, latest_of, published_of, newer_of, blocks_after, no_begin, no_publish, file_blocks, is_mask, is_drawn, is_node, is_proper, is_ready, draws, after_tree, after_begin, after_publish, export_after}
use Rattle.rz_tree.proofs.Keys.{false-true, held, one-or-two, get-inserted, get-beside, same_some, not_none}
use Rattle.rz_export.specs.Building.{MayBePublished}
use Rattle.rz_export_model.specs.Files.{ends}
use Rattle.rz_export.proofs.TreeStates.{stays}
use Rattle.rz_export.proofs.Replies.{may-begin, fitting, unknown-publish}
use Rattle.rz_export_laws.specs.Whole.{IsWholeBlock, IsWholeEnrolment}
use Rattle.rz_export_laws.proofs.Placing.{lies-new}
use Rattle.rz_export_laws.proofs.Carrying.{HasFile, Lie, IsCarried, same, changed, carried}

-- what stands beside the names of an export is whole
pub record IsBeside (s : Export) : Type 0 where
  pub files : Lie s.volume s.tree.objects
  pub blocks : (key : Key) (b : Block) → maps.get s.blocks key ≡ Some b → IsWholeBlock s key b
  pub enrolments : (node : ℕ) (e : Enrolled) → maps.get s.enrolled node ≡ Some e → IsWholeEnrolment s node e

abbrev export : Volume → Tree → Blocks → FinMap nat_cmp Enrolled → ℕ → Export
export v t m e last = record { volume = v; tree = t; blocks = m; enrolled = e; last = last }

abbrev never : ℕ → Bool
never fid = false

-- ---- files

has-file : (t : Tree) (fid size : ℕ) → is_some (file_of t fid) ≡ true → IfSome (file_of t fid) (λ info. size ≤ info.size) → HasFile t.objects fid size
has-file t fid size live long = go (maps.get t.objects fid) refl live long
  where
    by_kind : (o : Object) → maps.get t.objects fid ≡ Some o → (b : Bool) → is_file o.kind ≡ b
        → is_some (given_if b (info_of (record { fid = fid; object = o }))) ≡ true → IfSome (given_if b (info_of (record { fid = fid; object = o }))) (λ info. size ≤ info.size) → HasFile t.objects fid size
    by_kind o at true file live long = record { object = o; at = at; file = file; long = long }
    by_kind o at false file live long = absurd (false-true live)

    go : (o : Option Object) → maps.get t.objects fid ≡ o → is_some (option_and_then (file_from fid) o) ≡ true → IfSome (option_and_then (file_from fid) o) (λ info. size ≤ info.size) → HasFile t.objects fid size
    go None at live long = absurd (false-true live)
    go (Some o) at live long = by_kind o at (is_file o.kind) refl live long

file-is : (t : Tree) (fid size : ℕ) (h : HasFile t.objects fid size) → file_of t fid ≡ Some (info_of (record { fid = fid; object = h.object }))
file-is t fid size h = ap (option_and_then (file_from fid)) h.at ∙ ap (λ b. given_if b (info_of (record { fid = fid; object = h.object }))) h.file

is-live : (t : Tree) (fid size : ℕ) → HasFile t.objects fid size → is_some (file_of t fid) ≡ true
is-live t fid size h = ap is_some (file-is t fid size h)

is-long : (t : Tree) (fid size : ℕ) → HasFile t.objects fid size → IfSome (file_of t fid) (λ info. size ≤ info.size)
is-long t fid size h = subst (λ x. IfSome x (λ info. size ≤ info.size)) (sym (file-is t fid size h)) h.long

any-long : (o : Option FileInfo) → IfSome o (λ info. 0 ≤ info.size)
any-long None = tt
any-long (Some info) = omega arith

-- ---- numbers that were drawn

both : (a b : Bool) → a ≡ true → b ≡ true → (a && b) ≡ true
both true b h k = k
both false b h k = absurd (false-true h)

drawn-later : (stamp last later : ℕ) → last ≤ later → (nat_le 1 stamp && nat_le stamp last) ≡ true → (nat_le 1 stamp && nat_le stamp later) ≡ true
drawn-later stamp last later le h =
    let parts = and_parts (nat_le 1 stamp) (nat_le stamp last) h in
    let low = leb-true stamp last parts.1 in
    both (nat_le 1 stamp) (nat_le stamp later) parts.0 (le-leb stamp later (omega (arith, low, le)))

just-drawn : (last : ℕ) → (nat_le 1 (last + 1) && nat_le (last + 1) (last + 1)) ≡ true
just-drawn last = both (nat_le 1 (last + 1)) (nat_le (last + 1) (last + 1)) (le-leb 1 (last + 1) (omega arith)) (le-leb (last + 1) (last + 1) (omega arith))

-- ---- blocks that stay

module _ (v : Volume) (t u : Tree) (m n : Blocks) (e f : FinMap nat_cmp Enrolled) (last later : ℕ) (le : last ≤ later)
    (ended : ℕ → Bool) (c : IsCarried v t.objects u.objects ended) (key : Key) (going : ended key.fid ≡ false) (live : is_some (file_of t key.fid) ≡ true) where
  abbrev end_of : Published → ℕ
  end_of p = key.block * block_bytes_of v.layout + p.length

  published-stays : (p : Published) → MayBePublished (export v t m e last) key p → MayBePublished (export v u n f later) key p
  published-stays p may = record {
    drawn = drawn-later p.stamp last later le may.drawn;
    mask = may.mask;
    fits = may.fits;
    within = is-long u key.fid (end_of p) (c.stays key.fid (end_of p) (has-file t key.fid (end_of p) live may.within) going);
  }

  public-stays : (o : Option Published) → IfSome o (MayBePublished (export v t m e last) key) → IfSome o (MayBePublished (export v u n f later) key)
  public-stays None may = tt
  public-stays (Some p) may = published-stays p may

  live-stays : is_some (file_of u key.fid) ≡ true
  live-stays = is-live u key.fid 0 (c.stays key.fid 0 (has-file t key.fid 0 live (any-long (file_of t key.fid))) going)

block-stays : (v : Volume) (t u : Tree) (m n : Blocks) (e f : FinMap nat_cmp Enrolled) (last later : ℕ) → last ≤ later → (ended : ℕ → Bool) → IsCarried v t.objects u.objects ended
    → (key : Key) (b : Block) → ended key.fid ≡ false → IsWholeBlock (export v t m e last) key b → IsWholeBlock (export v u n f later) key b
block-stays v t u m n e f last later le ended c key b going old = record {
  live = live-stays v t u m n e f last later le ended c key going old.live;
  near = old.near;
  begun = drawn-later b.latest last later le old.begun;
  public = public-stays v t u m n e f last later le ended c key going old.live b.published old.public;
}

enrolment-stays : (v : Volume) (t u : Tree) (m n : Blocks) (e f : FinMap nat_cmp Enrolled) (last later : ℕ) → last ≤ later
    → (node : ℕ) (x : Enrolled) → IsWholeEnrolment (export v t m e last) node x → IsWholeEnrolment (export v u n f later) node x
enrolment-stays v t u m n e f last later le node x old = record { known = old.known; drawn = drawn-later x.fence last later le old.drawn }

-- ---- the calls

-- a call on names
module _ (s : Export) (old : IsBeside s) where
  name-keeps : (c : TreeCall) → IsVolume s.volume → maps.get s.tree.objects (s.tree.made + 1) ≡ None → IsBeside (after_tree s c)
  name-keeps c volume blank =
      let p = new_places s in
      let r = reply_to s.tree p.cid p.places c in
      let done = carried s.volume s.tree old.files blank p.cid p.places (lies-new s volume) c in
      record {
        files = done.lie;
        blocks = λ key b at. (let was = stays s.blocks r key b at in
            block-stays s.volume s.tree (after_tree s c).tree s.blocks (blocks_after s.blocks r) s.enrolled s.enrolled s.last s.last (omega arith) (ends r) done key b was.1 (old.blocks key b was.0));
        enrolments = λ node x at. enrolment-stays s.volume s.tree (after_tree s c).tree s.blocks (blocks_after s.blocks r) s.enrolled s.enrolled s.last s.last (omega arith) node x (old.enrolments node x at);
      }

-- ---- a begin

module _ (s : Export) (old : IsBeside s) (key : Key) (none : no_begin s key ≡ None) where
  abbrev new_block : Block
  new_block = record { latest = s.last + 1; published = published_of s.blocks key }

  abbrev blocks_begun : Blocks
  blocks_begun = maps.insert s.blocks key new_block

  begin_stays : (k : Key) (b : Block) → IsWholeBlock s k b → IsWholeBlock (after_begin s key) k b
  begin_stays k b was =
      block-stays s.volume s.tree s.tree s.blocks blocks_begun s.enrolled s.enrolled s.last (s.last + 1) (omega arith) never (same s.volume s.tree old.files never) k b refl was

  begin_public : (o : Option Block) → maps.get s.blocks key ≡ o → IfSome (option_and_then (λ b. b.published) o) (MayBePublished (after_begin s key) key)
  begin_public None at = tt
  begin_public (Some b) at = (begin_stays key b (old.blocks key b at)).public

  begin_own : IsWholeBlock (after_begin s key) key new_block
  begin_own =
      let may = may-begin s key none in
      record { live = may.live; near = may.near; begun = just-drawn s.last; public = begin_public (maps.get s.blocks key) refl }

  begin_block : (k : Key) (b : Block) → maps.get blocks_begun k ≡ Some b → IsWholeBlock (after_begin s key) k b
  begin_block k b at = elim (one-or-two keys_total exact_keys k key) [
    | inl is ↦
        let one : new_block ≡ b = same_some new_block b (sym (ap (maps.get blocks_begun) is ∙ get-inserted keys_total exact_keys s.blocks key new_block) ∙ at) in
        subst (λ (x : Key). IsWholeBlock (after_begin s key) x b) (sym is) (subst (IsWholeBlock (after_begin s key) key) one begin_own)
    | inr other ↦ begin_stays k b (old.blocks k b (sym (get-beside keys_total exact_keys s.blocks key new_block k other) ∙ at))
  ]

  begin-keeps : IsBeside (after_begin s key)
  begin-keeps = record {
    files = old.files;
    blocks = begin_block;
    enrolments = λ node x at.
        enrolment-stays s.volume s.tree s.tree s.blocks blocks_begun s.enrolled s.enrolled s.last (s.last + 1) (omega arith) node x (old.enrolments node x at);
  }

-- ---- an enrolment

module _ (s : Export) (old : IsBeside s) (node loss : ℕ) (known : is_node s node ≡ true) where
  abbrev new_enrolled : Enrolled
  new_enrolled = record { loss = loss; fence = s.last + 1 }

  abbrev enrolled_then : FinMap nat_cmp Enrolled
  enrolled_then = maps.insert s.enrolled node new_enrolled

  enroll_own : (n : ℕ) (x : Enrolled) → maps.get enrolled_then n ≡ Some x → IsWholeEnrolment (export s.volume s.tree s.blocks enrolled_then (s.last + 1)) n x
  enroll_own n x at = elim (one-or-two nat_cmp_total nat_cmp-IsAntisymmetric n node) [
    | inl is ↦
        let one : new_enrolled ≡ x = same_some new_enrolled x (sym (ap (maps.get enrolled_then) is ∙ get-inserted nat_cmp_total nat_cmp-IsAntisymmetric s.enrolled node new_enrolled) ∙ at) in
        record {
          known = ap (is_node s) is ∙ known;
          drawn = subst (λ (y : Enrolled). (nat_le 1 y.fence && nat_le y.fence (s.last + 1)) ≡ true) one (just-drawn s.last);
        }
    | inr other ↦ enrolment-stays s.volume s.tree s.tree s.blocks s.blocks s.enrolled enrolled_then s.last (s.last + 1) (omega arith) n x
        (old.enrolments n x (sym (get-beside nat_cmp_total nat_cmp-IsAntisymmetric s.enrolled node new_enrolled n other) ∙ at))
  ]

  enroll-keeps : (b : Bool) → IsBeside (cond b (record s { enrolled = enrolled_then; last = s.last + 1 }) s)
  enroll-keeps false = old
  enroll-keeps true = record {
    files = old.files;
    blocks = λ k b at.
        block-stays s.volume s.tree s.tree s.blocks s.blocks s.enrolled enrolled_then s.last (s.last + 1) (omega arith) never (same s.volume s.tree old.files never) k b refl (old.blocks k b at);
    enrolments = enroll_own;
  }

-- ---- a publish

by_size : (a b : ℕ) (r : Ordering) → nat_cmp a b ≡ r → (a ≤ cond (is_lt r) b a) × (b ≤ cond (is_lt r) b a)
by_size a b Less is = ((let low : a < b = ranked a b Less (sym is) in omega (arith, low)), omega arith)
by_size a b Equal is = (omega arith, (let eq : a ≡ b = ranked a b Equal (sym is) in omega (arith, eq)))
by_size a b Greater is = (omega arith, (let low : b < a = ranked a b Greater (sym is) in omega (arith, low)))

either_most : (most a b : ℕ) (t : Bool) → a ≤ most → b ≤ most → cond t b a ≤ most
either_most most a b true la lb = lb
either_most most a b false la lb = la

end-short : (block bytes size limit : ℕ) → block < limit → size ≤ bytes → block * bytes + size ≤ limit * bytes
end-short block bytes size limit near fits =
    let next : suc block ≤ limit = omega (arith, near) in
    let up : suc block * bytes ≤ limit * bytes = mul-le-mul_right bytes next in
    let one : suc block * bytes ≡ block * bytes + bytes = suc-mul block bytes in
    omega (arith, up, one, fits)

module _ (s : Export) (old : IsBeside s) (key : Key) (p : Published) (proper : is_proper s (call.Publish key p.stamp p.mask p.length) ≡ true)
    (info : FileInfo) (at_file : file_of s.tree key.fid ≡ Some info) where
  abbrev bytes : ℕ
  bytes = block_bytes_of s.volume.layout

  abbrev end : ℕ
  end = key.block * bytes + p.length

  abbrev longer : Object → Object
  longer o = record o { size = cond (is_lt (nat_cmp o.size end)) end o.size }

  abbrev tree_grown : Tree
  tree_grown = grown s.tree key.fid end

  abbrev new_public : Block
  new_public = record { latest = latest_of s.blocks key; published = Some (newer_of (published_of s.blocks key) p) }

  abbrev blocks_public : Blocks
  blocks_public = maps.insert s.blocks key new_public

  was_begun : (b : Block) × (maps.get s.blocks key ≡ Some b)
  was_begun = held (maps.get s.blocks key) (fitting s key p info proper at_file).begun

  was_whole : IsWholeBlock s key was_begun.0
  was_whole = old.blocks key was_begun.0 was_begun.1

  end_short : end ≤ file_blocks * bytes
  end_short = end-short key.block bytes p.length file_blocks was_whole.near (fitting s key p info proper at_file).fits

  grows : IsCarried s.volume s.tree.objects tree_grown.objects never
  grows = changed s.volume s.tree old.files key.fid longer never (λ o. refl) (λ o. (by_size o.size end (nat_cmp o.size end) refl).0)
      (λ o at file l. record {
        home = l.home;
        all_places = l.all_places;
        distinct = l.distinct;
        short = either_most (file_blocks * bytes) o.size end (is_lt (nat_cmp o.size end)) l.short end_short;
      })

  grown_enough : HasFile tree_grown.objects key.fid end
  grown_enough =
      let has = has-file s.tree key.fid 0 was_whole.live (any-long (file_of s.tree key.fid)) in
      record {
        object = longer has.object;
        at = ap (λ o. maps.get (option_map_or (λ x. maps.insert s.tree.objects key.fid (longer x)) o s.tree.objects) key.fid) has.at
            ∙ get-inserted nat_cmp_total nat_cmp-IsAntisymmetric s.tree.objects key.fid (longer has.object);
        file = has.file;
        long = (by_size has.object.size end (nat_cmp has.object.size end) refl).1;
      }

  public_now : MayBePublished (after_publish s key p) key p
  public_now =
      let d = and_parts (is_mask s.volume.layout p.mask && nat_le p.length bytes && is_drawn s p.stamp) (is_ready s key) proper in
      let c = and_parts (is_mask s.volume.layout p.mask && nat_le p.length bytes) (is_drawn s p.stamp) d.0 in
      let b = and_parts (is_mask s.volume.layout p.mask) (nat_le p.length bytes) c.0 in
      record { drawn = c.1; mask = b.0; fits = leb-true p.length bytes b.1; within = is-long tree_grown key.fid end grown_enough }

  public_newer : (o : Option Published) → IfSome o (MayBePublished s key) → MayBePublished (after_publish s key p) key (newer_of o p)
  public_newer None may = public_now
  public_newer (Some first) may = go (nat_lt first.stamp p.stamp)
    where
      go : (b : Bool) → MayBePublished (after_publish s key p) key (cond b p first)
      go true = public_now
      go false = published-stays s.volume s.tree tree_grown s.blocks blocks_public s.enrolled s.enrolled s.last s.last (omega arith) never grows key refl was_whole.live first may

  public_own : IsWholeBlock (after_publish s key p) key new_public
  public_own = record {
    live = is-live tree_grown key.fid end grown_enough;
    near = was_whole.near;
    begun = ap (λ o. is_drawn s (option_map_or (λ (b : Block). b.latest) o 0)) was_begun.1 ∙ was_whole.begun;
    public = public_newer (published_of s.blocks key)
        (subst (λ o. IfSome (option_and_then (λ (b : Block). b.published) o) (MayBePublished s key)) (sym was_begun.1) was_whole.public);
  }

  public_block : (k : Key) (b : Block) → maps.get blocks_public k ≡ Some b → IsWholeBlock (after_publish s key p) k b
  public_block k b at = elim (one-or-two keys_total exact_keys k key) [
    | inl is ↦
        let one : new_public ≡ b = same_some new_public b (sym (ap (maps.get blocks_public) is ∙ get-inserted keys_total exact_keys s.blocks key new_public) ∙ at) in
        subst (λ (x : Key). IsWholeBlock (after_publish s key p) x b) (sym is) (subst (IsWholeBlock (after_publish s key p) key) one public_own)
    | inr other ↦
        block-stays s.volume s.tree tree_grown s.blocks blocks_public s.enrolled s.enrolled s.last s.last (omega arith) never grows k b refl
        (old.blocks k b (sym (get-beside keys_total exact_keys s.blocks key new_public k other) ∙ at))
  ]

  publish-keeps : IsBeside (after_publish s key p)
  publish-keeps = record {
    files = grows.lie;
    blocks = public_block;
    enrolments = λ node x at.
        enrolment-stays s.volume s.tree tree_grown s.blocks blocks_public s.enrolled s.enrolled s.last s.last (omega arith) node x (old.enrolments node x at);
  }

-- ---- each call

module _ (s : Export) (old : IsBeside s) (volume : IsVolume s.volume) (blank : maps.get s.tree.objects (s.tree.made + 1) ≡ None) where
  begin_keeps : (key : Key) (o : Option Denial) → no_begin s key ≡ o → IsBeside (option_map_or (λ why. s) o (after_begin s key))
  begin_keeps key None is = begin-keeps s old key is
  begin_keeps key (Some why) is = old

  publish_keeps : (key : Key) (p : Published) → is_proper s (call.Publish key p.stamp p.mask p.length) ≡ true
      → (o : Option Reply) → no_publish s key p.stamp p.mask ≡ o → IsBeside (option_map_or (λ why. s) o (after_publish s key p))
  publish_keeps key p proper (Some why) is = old
  publish_keeps key p proper None is = go (file_of s.tree key.fid) refl
    where
      go : (o : Option FileInfo) → file_of s.tree key.fid ≡ o → IsBeside (after_publish s key p)
      go None gone = absurd (not_none (reply.Denied denial.UnknownFile) (sym (unknown-publish s key p.stamp p.mask gone) ∙ is))
      go (Some info) live = publish-keeps s old key p proper info live

  pub call-keeps : (c : Call) → is_proper s c ≡ true → IsBeside (export_after s c)
  call-keeps (call.Tree c) proper = name-keeps s old c volume blank
  call-keeps (call.Begin key text) proper = begin_keeps key (no_begin s key) refl
  call-keeps (call.Publish key stamp mask length) proper =
      publish_keeps key (record { stamp = stamp; mask = mask; length = length }) proper (no_publish s key stamp mask) refl
  call-keeps (call.Look key) proper = old
  call-keeps (call.Enroll node loss) proper = enroll-keeps s old node loss proper (draws s loss (maps.get s.enrolled node))
  call-keeps (call.Next node after) proper = old
  call-keeps (call.Recheck key) proper = old

pub same-volume : (s : Export) (c : Call) → (export_after s c).volume ≡ s.volume
same-volume s (call.Tree c) = refl
same-volume s (call.Begin key text) = go (no_begin s key)
  where
    go : (o : Option Denial) → (option_map_or (λ why. s) o (after_begin s key)).volume ≡ s.volume
    go None = refl
    go (Some why) = refl
same-volume s (call.Publish key stamp mask length) = go (no_publish s key stamp mask)
  where
    go : (o : Option Reply) → (option_map_or (λ why. s) o (after_publish s key (record { stamp = stamp; mask = mask; length = length }))).volume ≡ s.volume
    go None = refl
    go (Some why) = refl
same-volume s (call.Look key) = refl
same-volume s (call.Enroll node loss) = go (draws s loss (maps.get s.enrolled node))
  where
    go : (b : Bool) → (cond b (record s { enrolled = maps.insert s.enrolled node (record { loss = loss; fence = s.last + 1 }); last = s.last + 1 }) s).volume ≡ s.volume
    go true = refl
    go false = refl
same-volume s (call.Next node after) = refl
same-volume s (call.Recheck key) = refl
