-- The first listed block, by the least key that is marked or published.
use Rattle.std.proofs.Common.{◌≡◌, ℕ, Bool, true, false, cond, T, List, [], ◌∷◌, Option, Some, None, is_some, Ordering, sym, ap, ◌∙◌, refl}
use Rattle.std.specs.Option.{option_map, option_map_or, option_and_then, option_or}
use Rattle.std.specs.Ordering.{ordering_reverse, is_eq, is_lt, eq_by_cmp}
use Rattle.std.specs.declared.cmp.Ordering.TheVariants.{Less, Equal, Greater}
use Rattle.std.specs.Cmp.{tied_itself}
use Rattle.std.specs.FinMap as maps
use Rattle.std.specs.FinMap.{entries_sorted, get-entries}
use Rattle.std.specs.FinMap.Entries.{find, is_sorted}
use Rattle.std.proofs.lemmas.Option.{same_Some}
use Rattle.rz_events.specs.Keys.{key_cmp, keys_total, exact_keys}
use Rattle.rz_events.specs.declared.keys.Key.{Key}
use Rattle.rz_events.specs.declared.files.FileInfo.{FileInfo}
use Rattle.rz_events.specs.declared.files.Listed.{Listed}
use Rattle.rz_events.specs.declared.files.Published.{Published}
use Rattle.rz_blocks.specs.Marks.{is_marked}
use Rattle.rz_export_model.specs.Firsts.{first_given, given_if}
use Rattle.rz_export_model.specs.Tree.{Tree, file_of}
use Rattle.rz_export_model.specs.Export.{Export, Block, is_after, is_on, listed_at, published_of, published_after, next_on}
use Rattle.rz_blocks.specs.Shown.{first_published}
use Rattle.rz_export.specs.Kept.{lies_on, AreMarked}
use Rattle.rz_export.proofs.Counts.{Entries, at_key, find-below, below-less}
use Rattle.rz_export.proofs.Used.{counts_at}
use Rattle.rz_export_model.proofs.Files.{view}
use Rattle.rz_export_model.proofs.Tests.{eq_true, left, right}
use Rattle.rz_export.proofs.Marked.{Marks, seen-mark}

-- ---- the first that the entries give

head-found : (e : Key × Block) (es : Entries) → find key_cmp e.0 (e ∷ es) ≡ Some e.1
head-found e es = ap (λ r. cond (is_eq r) (Some e.1) (find key_cmp e.0 es)) (tied_itself keys_total e.0)

tail-found : (e : Key × Block) (es : Entries) → T (is_sorted key_cmp (e ∷ es)) → (k : Key) (b : Block) → find key_cmp k es ≡ Some b → find key_cmp k (e ∷ es) ≡ Some b
tail-found e es sorted k b at = ap (λ t. cond t (Some e.1) (find key_cmp k es)) (apart (eq_by_cmp key_cmp k e.0) refl) ∙ at
  where
    apart : (t : Bool) → eq_by_cmp key_cmp k e.0 ≡ t → t ≡ false
    apart true on =
        let gone : find key_cmp k es ≡ None = ap (λ (x : Key). find key_cmp x es) (exact_keys k e.0 (eq_true _ on)) ∙ find-below e.0 es (left _ _ sorted) in cc
    apart false off = refl

-- where no entry gives a thing
given-none : (f : Key × Block → Option Listed) (es : Entries) → T (is_sorted key_cmp es) → ((k : Key) (b : Block) → find key_cmp k es ≡ Some b → f (k, b) ≡ None)
    → first_given f es ≡ None
given-none f [] sorted none = refl
given-none f (e ∷ es) sorted none =
    ap (λ o. option_or o (first_given f es)) (none e.0 e.1 (head-found e es))
    ∙ given-none f es (right _ _ sorted) (λ k b at. none k b (tail-found e es sorted k b at))

-- where no entry of a lesser key gives a thing
given-least : (f : Key × Block → Option Listed) (es : Entries) → T (is_sorted key_cmp es) → (k : Key) (b : Block) (l : Listed) → find key_cmp k es ≡ Some b → f (k, b) ≡ Some l
    → ((q : Key) (c : Block) → find key_cmp q es ≡ Some c → is_lt (key_cmp q k) ≡ true → f (q, c) ≡ None) → first_given f es ≡ Some l
given-least f [] sorted k b l at is none = cc
given-least f (e ∷ es) sorted k b l at is none =
    go (key_cmp k e.0) refl (λ later. given-least f es (right _ _ sorted) k b l later is (λ q c there low. none q c (tail-found e es sorted q c there) low))
  where
    past : (r : Ordering) → key_cmp k e.0 ≡ r → find key_cmp k (e ∷ es) ≡ cond (is_eq r) (Some e.1) (find key_cmp k es)
    past r is_r = ap (λ x. cond (is_eq x) (Some e.1) (find key_cmp k es)) is_r

    go : (r : Ordering) → key_cmp k e.0 ≡ r → (find key_cmp k es ≡ Some b → first_given f es ≡ Some l) → option_or (f e) (first_given f es) ≡ Some l
    go Less is_r later =
        let gone : find key_cmp k (e ∷ es) ≡ None = past Less is_r ∙ find-below k es (below-less k e.0 es is_r (left _ _ sorted)) in cc
    go Equal is_r later =
        let same : k ≡ e.0 = exact_keys k e.0 is_r in
        let own : e.1 ≡ b = same_Some e.1 b (sym (past Equal is_r) ∙ at) in
        ap (λ o. option_or o (first_given f es)) (ap (λ (y : Key). f (y, e.1)) (sym same) ∙ ap (λ (y : Block). f (k, y)) own ∙ is)
    go Greater is_r later =
        let low : is_lt (key_cmp e.0 k) ≡ true = ap is_lt (keys_total.antisymm e.0 k ∙ ap ordering_reverse is_r) in
        ap (λ o. option_or o (first_given f es)) (none e.0 e.1 (head-found e es) low) ∙ later (sym (past Greater is_r) ∙ at)

-- ---- the least marked block

-- a block with its file and what is published of it
abbrev pub listed : Key → FileInfo → Published → Listed
listed key info p = record { key = key; info = info; published = p }

module _ (s : Export) (marks : Marks) (marked : AreMarked s.tree s.blocks marks) (node : ℕ) (after : Option Key) where
  -- what an entry gives
  abbrev gives : Key × Block → Option Listed
  gives e = cond (is_after after e.0) (option_and_then (λ l. given_if (is_on node l) l) (listed_at s.tree e.0 e.1)) None

  none_on : (o : Option Listed) → option_map_or (is_on node) o false ≡ false → option_and_then (λ l. given_if (is_on node l) l) o ≡ None
  none_on None off = refl
  none_on (Some l) off = ap (λ t. given_if t l) off

  -- a block that is not marked
  unmarked : (k : Key) (b : Block) → maps.get s.blocks k ≡ Some b → (is_after after k ≡ true → is_marked marks node k ≡ false) → gives (k, b) ≡ None
  unmarked k b at off = go (is_after after k) refl
    where
      go : (t : Bool) → is_after after k ≡ t → cond t (option_and_then (λ l. given_if (is_on node l) l) (listed_at s.tree k b)) None ≡ None
      go true above = none_on (listed_at s.tree k b) (sym (ap (at_key (lies_on s.tree node) k) at) ∙ sym (marked node k) ∙ off above)
      go false below = refl

  -- no marked block is left
  pub next-none : ((q : Key) → is_after after q ≡ true → is_marked marks node q ≡ false) → None ≡ next_on s node after
  next-none off = sym (given-none gives (maps.entries s.blocks) (entries_sorted s.blocks) (λ k b at. unmarked k b (get-entries s.blocks k ∙ at) (off k)))

  -- the file of a marked block is live
  pub marked-live : (k : Key) → is_marked marks node k ≡ true → file_of s.tree k.fid ≡ None → ⊥
  marked-live k on none = go (maps.get s.blocks k) (sym (marked node k) ∙ on)
    where
      go : (o : Option Block) → at_key (lies_on s.tree node) k o ≡ true → ⊥
      go None here = cc
      go (Some b) here =
          let off : lies_on s.tree node (k, b) ≡ false
          = ap (λ (i : Option FileInfo). option_map_or (is_on node) (option_and_then (λ info. option_map (λ p. listed k info p) b.published) i) false) none in cc

  -- a marked block is published
  pub marked-published : (k : Key) → is_marked marks node k ≡ true → published_of s.blocks k ≡ None → ⊥
  marked-published k on none =
      let off : is_marked marks node k ≡ false = seen-mark s.tree s.blocks marks marked node k ∙ ap (counts_at node (view s.tree.objects k.fid)) none ∙ go (view s.tree.objects k.fid) in cc
    where
      go : (o : Option (List ℕ)) → counts_at node o None ≡ false
      go None = refl
      go (Some places) = refl

  -- the least marked block
  pub next-some : (k : Key) (info : FileInfo) (p : Published) → is_after after k ≡ true → is_marked marks node k ≡ true
      → ((q : Key) → is_after after q ≡ true → is_lt (key_cmp q k) ≡ true → is_marked marks node q ≡ false)
      → file_of s.tree k.fid ≡ Some info → published_of s.blocks k ≡ Some p → Some (listed k info p) ≡ next_on s node after
  next-some k info p above on less live told = go (maps.get s.blocks k) refl told (sym (marked node k) ∙ on)
    where
      go : (o : Option Block) → maps.get s.blocks k ≡ o → option_and_then (λ b. b.published) o ≡ Some p → at_key (lies_on s.tree node) k o ≡ true → Some (listed k info p) ≡ next_on s node after
      go None is told here = cc
      go (Some b) is told here =
          let whole : listed_at s.tree k b ≡ Some (listed k info p)
          = ap (option_and_then (λ i. option_map (λ x. listed k i x) b.published)) live ∙ ap (option_map (λ x. listed k info x)) told in
          let given : gives (k, b) ≡ Some (listed k info p)
          = ap (λ t. cond t (option_and_then (λ l. given_if (is_on node l) l) (listed_at s.tree k b)) None) above
          ∙ ap (option_and_then (λ l. given_if (is_on node l) l)) whole
          ∙ ap (λ t. given_if t (listed k info p)) (sym (ap (λ o. option_map_or (is_on node) o false) whole) ∙ here) in
          sym (given-least gives (maps.entries s.blocks) (entries_sorted s.blocks) k b (listed k info p) (sym (get-entries s.blocks k) ∙ is) given
          (λ q c there low. unmarked q c (get-entries s.blocks q ∙ there) (λ up. less q up low)))

-- ---- the least published block

-- a published block with its file, where this is live
abbrev pub with_file : Tree → Key × Published → Option Listed
with_file t x = option_map (λ info. listed x.0 info x.1) (file_of t x.0.fid)

module _ (t : Tree) (after : Option Key) where
  abbrev shows : Key × Block → Option Listed
  shows e = cond (is_after after e.0) (option_and_then (λ l. given_if true l) (listed_at t e.0 e.1)) None

  abbrev tells : Key × Block → Option (Key × Published)
  tells e = cond (is_after after e.0) (option_map (λ p. (e.0, p)) e.1.published) None

  published_entries : (es : Entries) → T (is_sorted key_cmp es) → ((k : Key) (b : Block) → find key_cmp k es ≡ Some b → is_some (file_of t k.fid) ≡ true)
      → first_given shows es ≡ option_and_then (with_file t) (first_given tells es)
  published_entries [] sorted live = refl
  published_entries (e ∷ es) sorted live =
      go (is_after after e.0) e.1.published (file_of t e.0.fid) refl (live e.0 e.1 (head-found e es)) (first_given shows es) (first_given tells es)
      (published_entries es (right _ _ sorted) (λ k b at. live k b (tail-found e es sorted k b at)))
    where
      go : (a : Bool) (p : Option Published) (i : Option FileInfo) → file_of t e.0.fid ≡ i → is_some i ≡ true → (x : Option Listed) (y : Option (Key × Published)) → x ≡ option_and_then (with_file t) y
          → option_or (cond a (option_and_then (λ l. given_if true l) (option_and_then (λ info. option_map (λ q. listed e.0 info q) p) i)) None) x
          ≡ option_and_then (with_file t) (option_or (cond a (option_map (λ q. (e.0, q)) p) None) y)
      go false p i is there x y rest = rest
      go true p None is there x y rest = cc
      go true None (Some info) is there x y rest = rest
      go true (Some q) (Some info) is there x y rest = sym (ap (option_map (λ (z : FileInfo). listed e.0 z q)) is)

-- where each block is one of a live file
pub published-first : (s : Export) (after : Option Key) → ((k : Key) (b : Block) → maps.get s.blocks k ≡ Some b → is_some (file_of s.tree k.fid) ≡ true)
    → published_after s after ≡ option_and_then (with_file s.tree) (first_published s.blocks after)
published-first s after live = published_entries s.tree after (maps.entries s.blocks) (entries_sorted s.blocks) (λ k b at. live k b (get-entries s.blocks k ∙ at))
