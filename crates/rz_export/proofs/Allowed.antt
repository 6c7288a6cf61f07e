-- The tests of the next part are its rules.
use Rattle.std.proofs.Common.{◌≡◌, ℕ, suc, ◌+◌, ◌*◌, ◌≤◌, Bool, true, false, not, cond, ◌&&◌, ◌||◌, ◌↔◌, List, [], ◌∷◌, length, Option, Some, None, is_some, is_none, Ordering, sym, ap, ◌∙◌, subst, refl, arith, eqb-true, eq-eqb, nat_lt}
use Rattle.std.specs.Prelude.{◌==◌, nat_le, nat_eq, IfSome}
use Rattle.std.proofs.lemmas.Bool.{leb-true}
use Rattle.std.proofs.lemmas.Bool.Decides.{nat_tests}
use Rattle.std.specs.declared.cmp.Ordering.TheVariants.{Less, Equal, Greater}
use Rattle.std.specs.List as lists
use Rattle.std.specs.List.{list_all, list_any, AllByRecursion, IsDistinct}
use Rattle.std.specs.Option.{option_map, option_map_or}
use Rattle.std.specs.Ordering.{nat_cmp, is_eq, is_lt, ordering_reverse}
use Rattle.std.specs.Cmp.{IsTotalOrder, nat_cmp_total}
use Rattle.std.specs.FinMap as maps
use Rattle.std.specs.FinMap.{FinMap, get-entries, len-entries, len-empty, same_entries_map}
use Rattle.std.specs.FinMap.Entries.{find}
use Rattle.mj_angles.specs.Layout.{block_bytes_of, safe_of}
use Rattle.rz_events.specs.Keys.{keys_total}
use Rattle.rz_events.specs.Volume.{Volume}
use Rattle.rz_events.specs.declared.keys.Key.{Key}
use Rattle.rz_events.specs.declared.files.FileInfo.{FileInfo}
use Rattle.rz_events.specs.declared.files.Published.{Published}
use Rattle.rz_export_model.specs.Tree.{Object, file_of, is_file}
use Rattle.rz_export_model.specs.Export.{Export, Block, Blocks, Enrolled, file_blocks, is_mask, is_drawn, is_node, is_after}
use Rattle.rz_blocks.specs.Shown.{entry_above}
use Rattle.rz_tree.specs.Added.{is_behind, IsNextObject}
use Rattle.rz_export.specs.declared.nodes.Enrolment.{Enrolment}
use Rattle.rz_tree.proofs.Walks.{le-test, lt-same, lt-test, test-lt}
use Rattle.rz_export.specs.Parts.{enrolled_pair, is_past}
use Rattle.rz_export.specs.Building.{is_home, LiesIn, IsBlockless, MayBeObject, MayBePublished, MayBeBlock, MayBeEnrolled}
use Rattle.rz_export.specs.Allowed.{are_distinct, lies_in, may_lie, is_blockless, may_be_published, is_next_block, is_next_enrolment}

pub no : false ≡ true → ⊥
no h = cc

pub and-left : (a b : Bool) → (a && b) ≡ true → a ≡ true
and-left true b h = refl
and-left false b h = absurd (no h)

pub and-right : (a b : Bool) → (a && b) ≡ true → b ≡ true
and-right true b h = h
and-right false b h = absurd (no h)

pub and-both : (a b : Bool) → a ≡ true → b ≡ true → (a && b) ≡ true
and-both true b h k = k
and-both false b h k = absurd (no h)

and-no : (a : Bool) → (a && false) ≡ false
and-no true = refl
and-no false = refl

-- what is never allowed
pub never : (false ≡ true) ↔ ⊥
never = ((λ h. no h), (λ none. absurd none))

-- ---- behind all

is-none-map : {X Y : Type 0} (f : X → Y) (o : Option X) → is_none (option_map f o) ≡ is_none o
is-none-map f None = refl
is-none-map f (Some x) = refl

pub is-some-map : {X Y : Type 0} (f : X → Y) (o : Option X) → is_some (option_map f o) ≡ is_some o
is-some-map f None = refl
is-some-map f (Some x) = refl

module _ {K X : Type 0} {R : K → K → Ordering} (o : IsTotalOrder R) (k : K) where
  step : (r : Ordering) (e : K × X) (rest : Bool) (found : Option X) (later : Option (K × X)) → rest ≡ (not (is_some found) && is_none later)
      → (is_lt (ordering_reverse r) && rest) ≡ (not (is_some (cond (is_eq r) (Some e.1) found)) && is_none (cond (is_lt r) (Some e) later))
  step Less e rest found later h = sym (and-no (not (is_some found)))
  step Equal e rest found later h = refl
  step Greater e rest found later h = h

  -- all keys are lesser where none is the key and none is greater
  all-lesser : (es : List (K × X)) → list_all (λ e. is_lt (R e.0 k)) es ≡ (not (is_some (find R k es)) && is_none (lists.find (λ e. is_lt (R k e.0)) es))
  all-lesser [] = refl
  all-lesser (e ∷ es) =
      ap (λ r. is_lt r && list_all (λ x. is_lt (R x.0 k)) es) (o.antisymm e.0 k)
      ∙ step (R k e.0) e (list_all (λ x. is_lt (R x.0 k)) es) (find R k es) (lists.find (λ x. is_lt (R k x.0)) es) (all-lesser es)

  behind-test : (m : FinMap R X) → is_behind m k ≡ (not (is_some (maps.get m k)) && is_none (lists.find (λ e. is_lt (R k e.0)) (maps.entries m)))
  behind-test m = all-lesser (maps.entries m) ∙ ap (λ x. not (is_some x) && is_none (lists.find (λ e. is_lt (R k e.0)) (maps.entries m))) (sym (get-entries m k))

  -- a key that is there stands not behind all
  pub behind-there : (m : FinMap R X) → is_some (maps.get m k) ≡ true → false ≡ is_behind m k
  behind-there m there = sym (behind-test m ∙ ap (λ b. not b && is_none (lists.find (λ e. is_lt (R k e.0)) (maps.entries m))) there)

  behind-absent : (m : FinMap R X) → is_some (maps.get m k) ≡ false → is_none (lists.find (λ e. is_lt (R k e.0)) (maps.entries m)) ≡ is_behind m k
  behind-absent m absent = sym (behind-test m ∙ ap (λ b. not b && is_none (lists.find (λ e. is_lt (R k e.0)) (maps.entries m))) absent)

pub block-behind : (m : Blocks) (key : Key) (x : Option (Key × ℕ × Option Published)) → is_some (maps.get m key) ≡ false → x ≡ entry_above m (Some key) → is_none x ≡ is_behind m key
block-behind m key x absent is =
    ap is_none is ∙ is-none-map (λ (e : Key × Block). (e.0, e.1.latest, e.1.published)) (lists.find (λ e. is_after (Some key) e.0) (maps.entries m))
    ∙ behind-absent keys_total key m absent

past-same : (node : ℕ) (es : List (ℕ × Enrolled)) → lists.find (λ e. is_past (Some node) e.0) es ≡ lists.find (λ e. is_lt (nat_cmp node e.0)) es
past-same node [] = refl
past-same node (e ∷ es) = ap (λ b. cond b (Some e) (lists.find (λ x. is_past (Some node) x.0) es)) (lt-same node e.0) ∙ ap (cond (is_lt (nat_cmp node e.0)) (Some e)) (past-same node es)

pub enrolled-behind : (m : FinMap nat_cmp Enrolled) (node : ℕ) (x : Option (ℕ × Enrolment)) → is_some (maps.get m node) ≡ false
    → option_map enrolled_pair x ≡ lists.find (λ e. is_past (Some node) e.0) (maps.entries m) → is_none x ≡ is_behind m node
enrolled-behind m node x absent is =
    sym (is-none-map enrolled_pair x) ∙ ap is_none (is ∙ past-same node (maps.entries m)) ∙ behind-absent nat_cmp_total node m absent

-- ---- nothing yet

some-left : (n : ℕ) → false ≡ (suc n == 0)
some-left n = grind (arith, nat_tests)

first-none : (es : List (ℕ × Enrolled)) → is_none (lists.find (λ e. is_past None e.0) es) ≡ (length es == 0)
first-none [] = refl
first-none (e ∷ es) = some-left (length es)

pub enrolled-none : (m : FinMap nat_cmp Enrolled) (x : Option (ℕ × Enrolment)) → option_map enrolled_pair x ≡ lists.find (λ e. is_past None e.0) (maps.entries m)
    → is_none x ≡ (maps.len m == 0)
enrolled-none m x is =
    sym (is-none-map enrolled_pair x) ∙ ap is_none is ∙ first-none (maps.entries m) ∙ ap (λ n. n == 0) (sym (len-entries m))

no-entries : {X : Type 0} (xs : List X) → length xs ≡ 0 → xs ≡ []
no-entries [] h = refl
no-entries (x ∷ xs) h = absurd (omega (arith, h))

module _ {K X : Type 0} {R : K → K → Ordering} where
  abbrev nothing : FinMap R X
  nothing = maps.empty

  empty-rule : (m : FinMap R X) → (maps.len m == 0) ≡ true → m ≡ maps.empty
  empty-rule m h = same_entries_map m nothing (
      no-entries (maps.entries m) (sym (len-entries m) ∙ eqb-true (maps.len m) 0 h)
      ∙ sym (no-entries (maps.entries nothing) (sym (len-entries nothing) ∙ len-empty R X)))

  empty-test : (m : FinMap R X) → m ≡ maps.empty → (maps.len m == 0) ≡ true
  empty-test m h = eq-eqb (maps.len m) 0 (ap maps.len h ∙ len-empty R X)

pub blockless-rule : (s : Export) → is_blockless s ≡ true → IsBlockless s
blockless-rule s h = record {
  no_blocks = empty-rule s.blocks (and-left (maps.len s.blocks == 0) (maps.len s.enrolled == 0) h);
  no_enrolments = empty-rule s.enrolled (and-right (maps.len s.blocks == 0) (maps.len s.enrolled == 0) h);
}

pub blockless-test : (s : Export) → IsBlockless s → is_blockless s ≡ true
blockless-test s h = and-both (maps.len s.blocks == 0) (maps.len s.enrolled == 0) (empty-test s.blocks h.no_blocks) (empty-test s.enrolled h.no_enrolments)

-- ---- where a file lies

not-rule : (b : Bool) → not b ≡ true → b ≡ false
not-rule true h = absurd (no h)
not-rule false h = refl

either-no : (a b : Bool) → (a || b) ≡ false → (a ≡ false) × (b ≡ false)
either-no true b h = absurd (no (sym h))
either-no false b h = (refl, h)

both-no : (a b : Bool) → a ≡ false → b ≡ false → (a || b) ≡ false
both-no true b h k = absurd (no (sym h))
both-no false b h k = k

same-either : (a b : ℕ) → (a == b) ≡ nat_eq b a
same-either a b = grind (arith, nat_tests)

apart-rule : (n : ℕ) (ns : List ℕ) → list_any (λ m. m == n) ns ≡ false → AllByRecursion (λ m. nat_eq n m ≡ false) ns
apart-rule n [] h = tt
apart-rule n (m ∷ ns) h = let parts = either-no (m == n) (list_any (λ x. x == n) ns) h in (sym (same-either m n) ∙ parts.0, apart-rule n ns parts.1)

apart-test : (n : ℕ) (ns : List ℕ) → AllByRecursion (λ m. nat_eq n m ≡ false) ns → list_any (λ m. m == n) ns ≡ false
apart-test n [] h = refl
apart-test n (m ∷ ns) h = both-no (m == n) (list_any (λ x. x == n) ns) (same-either m n ∙ h.0) (apart-test n ns h.1)

distinct-rule : (ns : List ℕ) → are_distinct ns ≡ true → IsDistinct nat_eq ns
unfolding IsDistinct
distinct-rule [] h = tt
distinct-rule (n ∷ ns) h =
    (apart-rule n ns (not-rule _ (and-left (not (list_any (λ m. m == n) ns)) (are_distinct ns) h)), distinct-rule ns (and-right (not (list_any (λ m. m == n) ns)) (are_distinct ns) h))

distinct-test : (ns : List ℕ) → IsDistinct nat_eq ns → are_distinct ns ≡ true
unfolding IsDistinct
distinct-test [] h = refl
distinct-test (n ∷ ns) h = and-both (not (list_any (λ m. m == n) ns)) (are_distinct ns) (ap not (apart-test n ns h.0)) (distinct-test ns h.1)

module _ (v : Volume) (o : Object) where
  abbrev home : Bool
  home = list_any (is_home o.cid o.places) v.clusters

  abbrev all : Bool
  all = length o.places == safe_of v.layout

  abbrev short : Bool
  short = nat_le o.size (file_blocks * block_bytes_of v.layout)

  lies-rule : lies_in v o.cid o.places o.size ≡ true → LiesIn v o
  lies-rule h =
      let a = and-left (home && all && are_distinct o.places) short h in
      let b = and-left (home && all) (are_distinct o.places) a in
      record {
        home = and-left home all b;
        all_places = eqb-true (length o.places) (safe_of v.layout) (and-right home all b);
        distinct = distinct-rule o.places (and-right (home && all) (are_distinct o.places) a);
        short = leb-true o.size (file_blocks * block_bytes_of v.layout) (and-right (home && all && are_distinct o.places) short h);
      }

  lies-test : LiesIn v o → lies_in v o.cid o.places o.size ≡ true
  lies-test h =
      and-both (home && all && are_distinct o.places) short
      (and-both (home && all) (are_distinct o.places) (and-both home all h.home (eq-eqb (length o.places) (safe_of v.layout) h.all_places)) (distinct-test o.places h.distinct))
      (le-test o.size (file_blocks * block_bytes_of v.layout) h.short)

or-rule : (a b : Bool) → (not a || b) ≡ true → a ≡ true → b ≡ true
or-rule true b h is = h
or-rule false b h is = absurd (no is)

or-test : (a b : Bool) → (a ≡ true → b ≡ true) → (not a || b) ≡ true
or-test true b h = h refl
or-test false b h = refl

-- the next object, where the tree lets it come
pub object-rules : (s : Export) (fid : ℕ) (o : Object) → IsNextObject s.tree fid o → IsBlockless s → (may_lie s o.kind o.cid o.places o.size ≡ true) ↔ MayBeObject s fid o
object-rules s fid o next blockless = (
  (λ h. record {
    next = next;
    lies = λ is. lies-rule s.volume o (or-rule (is_file o.kind) (lies_in s.volume o.cid o.places o.size) h is);
    before_blocks = blockless;
  }),
  (λ r. or-test (is_file o.kind) (lies_in s.volume o.cid o.places o.size) (λ is. lies-test s.volume o (r.lies is))),
)

-- ---- blocks

module _ (s : Export) (key : Key) where
  abbrev fits : Published → Bool
  fits p = nat_le p.length (block_bytes_of s.volume.layout)

  abbrev ends : Published → ℕ → Bool
  ends p size = nat_le (key.block * block_bytes_of s.volume.layout + p.length) size

  published-rule : (info : FileInfo) (p : Published) → file_of s.tree key.fid ≡ Some info → may_be_published s key info.size p ≡ true → MayBePublished s key p
  published-rule info p live h =
      let drawn = is_drawn s p.stamp in
      let mask = is_mask s.volume.layout p.mask in
      let a = and-left (drawn && mask && fits p) (ends p info.size) h in
      let b = and-left (drawn && mask) (fits p) a in
      let end = leb-true (key.block * block_bytes_of s.volume.layout + p.length) info.size (and-right (drawn && mask && fits p) (ends p info.size) h) in
      record {
        drawn = and-left drawn mask b;
        mask = and-right drawn mask b;
        fits = leb-true p.length (block_bytes_of s.volume.layout) (and-right (drawn && mask) (fits p) a);
        within = subst (λ (x : Option FileInfo). IfSome x (λ i. key.block * block_bytes_of s.volume.layout + p.length ≤ i.size)) (sym live) end;
      }

  published-test : (info : FileInfo) (p : Published) → file_of s.tree key.fid ≡ Some info → MayBePublished s key p → may_be_published s key info.size p ≡ true
  published-test info p live h =
      let drawn = is_drawn s p.stamp in
      let mask = is_mask s.volume.layout p.mask in
      let end : key.block * block_bytes_of s.volume.layout + p.length ≤ info.size =
      subst (λ (x : Option FileInfo). IfSome x (λ i. key.block * block_bytes_of s.volume.layout + p.length ≤ i.size)) live h.within in
      and-both (drawn && mask && fits p) (ends p info.size)
      (and-both (drawn && mask) (fits p) (and-both drawn mask h.drawn h.mask) (le-test p.length (block_bytes_of s.volume.layout) h.fits))
      (le-test (key.block * block_bytes_of s.volume.layout + p.length) info.size end)

  any-rule : (info : FileInfo) (p : Option Published) → file_of s.tree key.fid ≡ Some info → option_map_or (may_be_published s key info.size) p true ≡ true → IfSome p (MayBePublished s key)
  any-rule info None live h = tt
  any-rule info (Some p) live h = published-rule info p live h

  any-test : (info : FileInfo) (p : Option Published) → file_of s.tree key.fid ≡ Some info → IfSome p (MayBePublished s key) → option_map_or (may_be_published s key info.size) p true ≡ true
  any-test info None live h = refl
  any-test info (Some p) live h = published-test info p live h

  module _ (latest : ℕ) (published : Option Published) where
    abbrev near : Bool
    near = nat_lt key.block file_blocks

    abbrev last : Bool
    last = is_behind s.blocks key

    abbrev early : Bool
    early = maps.len s.enrolled == 0

    abbrev open_to : FileInfo → Bool
    open_to info = option_map_or (may_be_published s key info.size) published true

    abbrev all_of : FileInfo → Bool
    all_of info = near && last && is_drawn s latest && early && open_to info

    block-rule : (x : Option FileInfo) → file_of s.tree key.fid ≡ x → option_map_or all_of x false ≡ true → MayBeBlock s key latest published
    block-rule None live h = absurd (no h)
    block-rule (Some info) live h =
        let drawn = is_drawn s latest in
        let a = and-left (near && last && drawn && early) (open_to info) h in
        let b = and-left (near && last && drawn) early a in
        let c = and-left (near && last) drawn b in
        record {
          rising = and-right near last c;
          live = ap is_some live;
          near = test-lt key.block file_blocks (and-left near last c);
          begun = and-right (near && last) drawn b;
          public = any-rule info published live (and-right (near && last && drawn && early) (open_to info) h);
          before_enrolments = empty-rule s.enrolled (and-right (near && last && drawn) early a);
        }

    block-test : (x : Option FileInfo) → file_of s.tree key.fid ≡ x → MayBeBlock s key latest published → option_map_or all_of x false ≡ true
    block-test None live h = absurd (no (sym (ap is_some live) ∙ h.live))
    block-test (Some info) live h =
        let drawn = is_drawn s latest in
        and-both (near && last && drawn && early) (open_to info)
        (and-both (near && last && drawn) early
        (and-both (near && last) drawn (and-both near last (lt-test key.block file_blocks h.near) h.rising) h.begun)
        (empty-test s.enrolled h.before_enrolments))
        (any-test info published live h.public)

    -- the next block
    pub block-rules : (is_next_block s key latest published ≡ true) ↔ MayBeBlock s key latest published
    block-rules = (block-rule (file_of s.tree key.fid) refl, block-test (file_of s.tree key.fid) refl)

-- the next enrolment
pub enrolment-rules : (s : Export) (node fence : ℕ) → (is_next_enrolment s node fence ≡ true) ↔ MayBeEnrolled s node fence
enrolment-rules s node fence =
    let last = is_behind s.enrolled node in (
      (λ h.
          let a = and-left (last && is_node s node) (is_drawn s fence) h in
          record {
            rising = and-left last (is_node s node) a;
            known = and-right last (is_node s node) a;
            drawn = and-right (last && is_node s node) (is_drawn s fence) h;
          }),
      (λ r. and-both (last && is_node s node) (is_drawn s fence) (and-both last (is_node s node) r.rising r.known) r.drawn),
    )
