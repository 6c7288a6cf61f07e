-- A call that is not accepted, or that has no entry, changes nothing.
use Rattle.std.proofs.Common.{◌≡◌, ℕ, ◌+◌, ◌*◌, ◌<◌, ◌≤◌, Bool, true, false, cond, ◌||◌, ◌&&◌, List, [], ◌∷◌, length, Option, Some, None, IsSome, is_none, refl, sym, ◌∙◌, ap, subst, arith, length-append}
use Rattle.std.specs.Prelude.{◌==◌, nat_le, nat_lt, unwrap_or}
use Rattle.std.specs.List.{list_all, join_with_byte}
use Rattle.std.specs.Option.{option_map_or, option_and_then, option_or}
use Rattle.std.specs.FinMap as maps
use Rattle.std.proofs.lemmas.Bool.Decides.{nat_tests}
use Rattle.std.proofs.lemmas.Bool.{and_parts, leb-true}
use borrow.Author.Tests.{ltb-true}
use Rattle.std.proofs.lemmas.List.Splits.{join_with_byte-slice_split}
use Rattle.rz_events.specs.declared.ends.Denial.{Denial}
use Rattle.rz_events.specs.declared.ends.Denial.TheVariants as denial
use Rattle.rz_events.specs.declared.tree.TreeCall.{TreeCall}
use Rattle.rz_events.specs.declared.tree.TreeCall.TheVariants.{Lookup, Getattr, Rmdir, Mkdir, Create, Unlink, Readlink, Readdir, OpenFile, Setattr, Rename, Link, Symlink}
use Rattle.rz_events.specs.declared.tree.TreeFault.{TreeFault}
use Rattle.rz_events.specs.declared.tree.TreeReply.{TreeReply}
use Rattle.rz_events.specs.declared.tree.TreeReply.TheVariants as told
use Rattle.rz_events.specs.declared.tree.TreeFault.TheVariants as fault
use Rattle.rz_events.specs.declared.export.Call.{Call}
use Rattle.rz_events.specs.declared.export.Call.TheVariants as call
use Rattle.rz_events.specs.declared.export.Reply.{Reply}
use Rattle.rz_events.specs.declared.export.Reply.TheVariants as reply
use Rattle.rz_export_model.specs.Firsts.{given_if}
use Rattle.rz_export_model.specs.Paths.{Path, Name, is_name, path_of, parts_of, is_root}
use Rattle.rz_export_model.specs.Tree.{Tree, Found, found_at, info_of}
use Rattle.rz_export_model.specs.TreeCalls.{answer_to, changed_by, attr_of}
use Rattle.rz_export_model.specs.Refusals.{path_in, unreadable, unreadable_or_root, bad_target, refusal}
use Rattle.rz_export_model.specs.Export.{Export, Blocks, Enrolled, new_places, no_begin, no_publish, spent, draws, enroll_reply, new_fence, blocks_after, after_tree, after_begin, after_publish, export_reply, export_after, published_stamp}
use Rattle.rz_journal_text.specs.declared.entry.JournalEntry.TheVariants as entry
use Rattle.rz_journal.specs.Said.{only_looks, is_long, has_long_text, entry_of, accepts}

-- ---- a call on names, by its refusal

-- the export with this tree, after this reply
abbrev with_tree : Export → Tree → TreeReply → Export
with_tree s t r = record s { tree = t; blocks = blocks_after s.blocks r }

same_tree : (s : Export) (t : Tree) (r : TreeReply) → t ≡ s.tree → blocks_after s.blocks r ≡ s.blocks → with_tree s t r ≡ s
same_tree s t r tree blocks =
    ap (λ (u : Tree). (let x : Export = record s { tree = u; blocks = blocks_after s.blocks r } in x)) tree
    ∙ ap (λ (b : Blocks). (let x : Export = record s { tree = s.tree; blocks = b } in x)) blocks

refused_or : (s : Export) (o : Option TreeFault) (t : Tree) (r : TreeReply) → (t ≡ s.tree) × (blocks_after s.blocks r ≡ s.blocks) → with_tree s (option_map_or (λ f. s.tree) o t) (option_map_or told.Refused o r) ≡ s
refused_or s None t r same = same_tree s t r same.0 same.1
refused_or s (Some f) t r same = refl

-- where a call that is answered would be accepted
refused_only : (s : Export) (o : Option TreeFault) (t : Tree) (r : TreeReply) → accepts (reply.Tree r) ≡ true → accepts (reply.Tree (option_map_or told.Refused o r)) ≡ false → with_tree s (option_map_or (λ f. s.tree) o t) (option_map_or told.Refused o r) ≡ s
refused_only s None t r good bad = (let wrong : true ≡ false = sym good ∙ bad in absurd (cc))
refused_only s (Some f) t r good bad = refl

refused_some : (s : Export) (o : Option TreeFault) (t : Tree) (r : TreeReply) → IsSome o → with_tree s (option_map_or (λ f. s.tree) o t) (option_map_or told.Refused o r) ≡ s
refused_some s None t r some = absurd (cc)
refused_some s (Some f) t r some = refl

told_same : (b : Blocks) (o : Option Found) (tell : Found → TreeReply) → ((f : Found) → blocks_after b (tell f) ≡ b) → blocks_after b (option_map_or tell o (told.Refused fault.NoEntry)) ≡ b
told_same b None tell same = refl
told_same b (Some f) tell same = same f

-- a call that only looks changes nothing
looks_same : (s : Export) (c : TreeCall) → only_looks c ≡ true → after_tree s c ≡ s
looks_same s (Lookup path) good = refused_or s (refusal s.tree (Lookup path)) _ _ (refl, told_same s.blocks (found_at s.tree (path_in path)) (λ f. told.Found f.fid f.object.kind) (λ f. refl))
looks_same s (Getattr path) good = refused_or s (refusal s.tree (Getattr path)) _ _ (refl, told_same s.blocks (found_at s.tree (path_in path)) (λ f. told.Attr (attr_of s.tree f)) (λ f. refl))
looks_same s (Readlink path) good = refused_or s (refusal s.tree (Readlink path)) _ _ (refl, told_same s.blocks (found_at s.tree (path_in path)) (λ f. told.Target f.object.target) (λ f. refl))
looks_same s (Readdir path) good = refused_or s (refusal s.tree (Readdir path)) _ _ (refl, refl)
looks_same s (OpenFile path) good = refused_or s (refusal s.tree (OpenFile path)) _ _ (refl, told_same s.blocks (found_at s.tree (path_in path)) (λ f. told.File (info_of f)) (λ f. refl))
looks_same s (Rmdir path) good = absurd (cc)
looks_same s (Mkdir path) good = absurd (cc)
looks_same s (Create path) good = absurd (cc)
looks_same s (Unlink path) good = absurd (cc)
looks_same s (Setattr path mode mtime) good = absurd (cc)
looks_same s (Rename path to) good = absurd (cc)
looks_same s (Link path to) good = absurd (cc)
looks_same s (Symlink target path) good = absurd (cc)

tree_unaccepted : (s : Export) (c : TreeCall) → accepts (export_reply s (call.Tree c)) ≡ false → after_tree s c ≡ s
tree_unaccepted s (Lookup path) bad = looks_same s (Lookup path) refl
tree_unaccepted s (Getattr path) bad = looks_same s (Getattr path) refl
tree_unaccepted s (Readlink path) bad = looks_same s (Readlink path) refl
tree_unaccepted s (Readdir path) bad = looks_same s (Readdir path) refl
tree_unaccepted s (OpenFile path) bad = looks_same s (OpenFile path) refl
tree_unaccepted s (Rmdir path) bad = refused_only s (refusal s.tree (Rmdir path)) _ _ refl bad
tree_unaccepted s (Mkdir path) bad = refused_only s (refusal s.tree (Mkdir path)) _ _ refl bad
tree_unaccepted s (Create path) bad = refused_only s (refusal s.tree (Create path)) _ _ refl bad
tree_unaccepted s (Unlink path) bad = refused_only s (refusal s.tree (Unlink path)) _ _ refl bad
tree_unaccepted s (Setattr path mode mtime) bad = refused_only s (refusal s.tree (Setattr path mode mtime)) _ _ refl bad
tree_unaccepted s (Rename path to) bad = refused_only s (refusal s.tree (Rename path to)) _ _ refl bad
tree_unaccepted s (Link path to) bad = refused_only s (refusal s.tree (Link path to)) _ _ refl bad
tree_unaccepted s (Symlink target path) bad = refused_only s (refusal s.tree (Symlink target path)) _ _ refl bad

-- ---- the calls on blocks

denied_same : (s t : Export) (o : Option Denial) (r : Reply) → accepts r ≡ true → accepts (option_map_or reply.Denied o r) ≡ false → option_map_or (λ why. s) o t ≡ s
denied_same s t None r good bad = (let wrong : true ≡ false = sym good ∙ bad in absurd (cc))
denied_same s t (Some why) r good bad = refl

unpublished_same : (s t : Export) (o : Option Reply) → accepts (unwrap_or o reply.Accepted) ≡ false → option_map_or (λ why. s) o t ≡ s
unpublished_same s t None bad = absurd (cc)
unpublished_same s t (Some r) bad = refl

fenced : (o : Option Denial) (r : Reply) → accepts r ≡ true → accepts (option_map_or reply.Denied o r) ≡ false → is_none o ≡ false
fenced None r good bad = (let wrong : true ≡ false = sym good ∙ bad in absurd (cc))
fenced (Some why) r good bad = refl

and_false : (a : Bool) → (a && false) ≡ false
and_false true = refl
and_false false = refl

lesser_only : (a b : ℕ) → nat_lt a b ≡ true → nat_lt b a ≡ false
lesser_only a b good = grind (arith, nat_tests)

old_loss : (s : Export) (loss : ℕ) (e : Enrolled) (lesser equal : Bool) → nat_lt loss e.loss ≡ lesser → (loss == e.loss) ≡ equal
    → accepts (cond lesser (reply.Denied (denial.OldLoss e.loss)) (cond equal (reply.Fence e.fence) (new_fence s))) ≡ false → draws s loss (Some e) ≡ false
old_loss s loss e true equal lt eq bad = ap (λ (b : Bool). b && is_none (spent s)) (lesser_only loss e.loss lt)
old_loss s loss e false true lt eq bad = absurd (cc)
old_loss s loss e false false lt eq bad = ap (λ (b : Bool). nat_lt e.loss loss && b) (fenced (spent s) (reply.Fence (s.last + 1)) refl bad) ∙ and_false (nat_lt e.loss loss)

undrawn : (s : Export) (loss : ℕ) (o : Option Enrolled) → accepts (enroll_reply s loss o) ≡ false → draws s loss o ≡ false
undrawn s loss None bad = fenced (spent s) (reply.Fence (s.last + 1)) refl bad
undrawn s loss (Some e) bad = old_loss s loss e (nat_lt loss e.loss) (loss == e.loss) refl refl bad

-- a call that is not accepted changes nothing
pub unaccepted_same : (s : Export) (c : Call) → accepts (export_reply s c) ≡ false → export_after s c ≡ s
unaccepted_same s (call.Tree c) bad = tree_unaccepted s c bad
unaccepted_same s (call.Begin key text) bad = denied_same s (after_begin s key) (no_begin s key) (reply.Begun (s.last + 1) (published_stamp s.blocks key)) refl bad
unaccepted_same s (call.Publish key stamp mask bytes) bad = unpublished_same s (after_publish s key (record { stamp = stamp; mask = mask; length = bytes })) (no_publish s key stamp mask) bad
unaccepted_same s (call.Look key) bad = refl
unaccepted_same s (call.Enroll node loss) bad =
    ap (λ (b : Bool). cond b (let x : Export = record s { enrolled = maps.insert s.enrolled node (record { loss = loss; fence = s.last + 1 }); last = s.last + 1 } in x) s)
    (undrawn s loss (maps.get s.enrolled node) bad)
unaccepted_same s (call.Next node after) bad = refl
unaccepted_same s (call.Recheck key) bad = refl

-- ---- a text for whose length an entry has no room is refused

short_name : (n : Name) → is_name n ≡ true → length n ≤ 255
short_name n is =
    let front = and_parts _ _ is in
    let nearer = and_parts _ _ front.0 in
    let sizes = and_parts (nat_lt 0 (length n)) (nat_le (length n) 255) nearer.0 in
    leb-true (length n) 255 sizes.1

short_join : (ns : List Name) → list_all is_name ns ≡ true → length (join_with_byte 47 ns) ≤ 256 * length ns
short_join [] all = omega arith
short_join (n ∷ []) all = omega (arith, short_name n (and_parts (is_name n) true all).0)
short_join (n ∷ m ∷ ns) all =
    let parts = and_parts (is_name n) (list_all is_name (m ∷ ns)) all in
    let rest : List ℕ = join_with_byte 47 (m ∷ ns) in
    omega (arith, short_name n parts.0, length-append n (47 ∷ join_with_byte 47 (m ∷ ns)), short_join (m ∷ ns) parts.1)

-- at most 64 names
abbrev few_names : Path → Option Path
few_names names = cond (nat_le (length names) 64) (Some names) None

not_few : (ps : List Name) (few : Bool) → nat_le (length ps) 64 ≡ few → (few ≡ true → ⊥) → few_names ps ≡ None
not_few ps true is bad = absurd (bad refl)
not_few ps false is bad = ap (λ (b : Bool). cond b (Some ps) None) is

not_read : (ps : List Name) (slash named : Bool) → list_all is_name ps ≡ named → (named ≡ true → nat_le (length ps) 64 ≡ true → ⊥)
    → option_and_then few_names (cond slash (cond (list_all is_name ps) (Some ps) None) None) ≡ None
not_read ps false named is bad = refl
not_read ps true true is bad = ap (λ (b : Bool). option_and_then few_names (cond b (Some ps) None)) is ∙ not_few ps (nat_le (length ps) 64) refl (bad refl)
not_read ps true false is bad = ap (λ (b : Bool). option_and_then few_names (cond b (Some ps) None)) is

long_unread : (text : List ℕ) → is_long text ≡ true → path_of text ≡ None
long_unread [] long = absurd (cc)
long_unread (b ∷ []) long = absurd (cc)
long_unread (b ∷ x ∷ rest) long =
    let ps : List Name = parts_of (x ∷ rest) in
    not_read (parts_of (x ∷ rest)) (b == 47) (list_all is_name (parts_of (x ∷ rest))) refl (λ named few.
    let whole : join_with_byte 47 (parts_of (x ∷ rest)) ≡ x ∷ rest = join_with_byte-slice_split 47 (x ∷ rest) in
    let most : length (parts_of (x ∷ rest)) ≤ 64 = leb-true (length (parts_of (x ∷ rest))) 64 few in
    let past : 65535 < length (b ∷ x ∷ rest) = ltb-true 65535 (length (b ∷ x ∷ rest)) long in
    omega (arith, short_join (parts_of (x ∷ rest)) named, ap length whole, most, past))

long_bad : (text : List ℕ) → is_long text ≡ true → IsSome (unreadable text)
long_bad text long = subst (λ (o : Option Path). IsSome (given_if (is_none o) fault.BadName)) (sym (long_unread text long)) refl

long_bad_or_root : (text : List ℕ) → is_long text ≡ true → IsSome (unreadable_or_root text)
long_bad_or_root text long = subst (λ (o : Option Path). IsSome (given_if (is_root (unwrap_or o [])) fault.BadName)) (sym (long_unread text long)) refl

or_true : (a : Bool) → IsSome (given_if (a || true) fault.BadName)
or_true true = refl
or_true false = refl

long_target : (target : List ℕ) → is_long target ≡ true → IsSome (bad_target target)
long_target target long =
    let more : nat_lt 1024 (length target) ≡ true = grind (arith, nat_tests) in
    subst (λ (b : Bool). IsSome (given_if ((length target == 0) || b) fault.BadName)) (sym more) (or_true (length target == 0))

some_or : {A : Type 0} (o p : Option A) → IsSome o → IsSome (option_or o p)
some_or None p some = absurd (cc)
some_or (Some x) p some = refl

some_behind : {A : Type 0} (o p : Option A) → IsSome p → IsSome (option_or o p)
some_behind None p some = some
some_behind (Some x) p some = refl

either_long : (path to : List ℕ) (rest : Option TreeFault) (b : Bool) → is_long path ≡ b → (b || is_long to) ≡ true → IsSome (option_or (unreadable_or_root path) (option_or (unreadable_or_root to) rest))
either_long path to rest true is long = some_or (unreadable_or_root path) (option_or (unreadable_or_root to) rest) (long_bad_or_root path is)
either_long path to rest false is long = some_behind (unreadable_or_root path) (option_or (unreadable_or_root to) rest) (some_or (unreadable_or_root to) rest (long_bad_or_root to long))

link_long : (target path : List ℕ) (rest : Option TreeFault) (b : Bool) → is_long target ≡ b → (b || is_long path) ≡ true → IsSome (option_or (unreadable path) (option_or (bad_target target) rest))
link_long target path rest true is long = some_behind (unreadable path) (option_or (bad_target target) rest) (some_or (bad_target target) rest (long_target target is))
link_long target path rest false is long = some_or (unreadable path) (option_or (bad_target target) rest) (long_bad path long)

long_refused : (t : Tree) (c : TreeCall) → has_long_text c ≡ true → IsSome (refusal t c)
long_refused t (Lookup path) long = some_or (unreadable path) _ (long_bad path long)
long_refused t (Getattr path) long = some_or (unreadable path) _ (long_bad path long)
long_refused t (Rmdir path) long = some_or (unreadable_or_root path) _ (long_bad_or_root path long)
long_refused t (Mkdir path) long = some_or (unreadable path) _ (long_bad path long)
long_refused t (Create path) long = some_or (unreadable path) _ (long_bad path long)
long_refused t (Unlink path) long = some_or (unreadable_or_root path) _ (long_bad_or_root path long)
long_refused t (Readlink path) long = some_or (unreadable path) _ (long_bad path long)
long_refused t (Readdir path) long = some_or (unreadable path) _ (long_bad path long)
long_refused t (OpenFile path) long = some_or (unreadable path) _ (long_bad path long)
long_refused t (Setattr path mode mtime) long = some_or (unreadable path) _ (long_bad path long)
long_refused t (Rename path to) long = either_long path to _ (is_long path) refl long
long_refused t (Link path to) long = either_long path to _ (is_long path) refl long
long_refused t (Symlink target path) long = link_long target path _ (is_long target) refl long

-- ---- a call without an entry changes nothing

tree_unkept : (s : Export) (c : TreeCall) (b : Bool) → only_looks c ≡ b → (b || has_long_text c) ≡ true → after_tree s c ≡ s
tree_unkept s c true is none = looks_same s c is
tree_unkept s c false is none = refused_some s (refusal s.tree c) (changed_by s.tree (new_places s).cid (new_places s).places c) (answer_to s.tree (new_places s).cid (new_places s).places c) (long_refused s.tree c none)

none_where : {A : Type 0} (b : Bool) (x : A) → cond b None (Some x) ≡ None → b ≡ true
none_where true x none = refl
none_where false x none = absurd (cc)

pub unkept_same : (s : Export) (c : Call) → entry_of c ≡ None → export_after s c ≡ s
unkept_same s (call.Tree c) none = tree_unkept s c (only_looks c) refl (none_where (only_looks c || has_long_text c) (entry.Tree c) none)
unkept_same s (call.Begin key text) none = absurd (cc)
unkept_same s (call.Publish key stamp mask bytes) none = absurd (cc)
unkept_same s (call.Enroll node loss) none = absurd (cc)
unkept_same s (call.Look key) none = refl
unkept_same s (call.Next node after) none = refl
unkept_same s (call.Recheck key) none = refl

-- ---- no call changes the volume

or_volume : {X : Type 0} (s t : Export) (o : Option X) → t.volume ≡ s.volume → (option_map_or (λ why. s) o t).volume ≡ s.volume
or_volume s t None same = same
or_volume s t (Some why) same = refl

cond_volume : (s t : Export) (b : Bool) → t.volume ≡ s.volume → (cond b t s).volume ≡ s.volume
cond_volume s t true same = same
cond_volume s t false same = refl

pub volume_same : (s : Export) (c : Call) → (export_after s c).volume ≡ s.volume
volume_same s (call.Tree c) = refl
volume_same s (call.Begin key text) = or_volume s (after_begin s key) (no_begin s key) refl
volume_same s (call.Publish key stamp mask bytes) = or_volume s (after_publish s key (record { stamp = stamp; mask = mask; length = bytes })) (no_publish s key stamp mask) refl
volume_same s (call.Look key) = refl
volume_same s (call.Enroll node loss) =
    cond_volume s (let x : Export = record s { enrolled = maps.insert s.enrolled node (record { loss = loss; fence = s.last + 1 }); last = s.last + 1 } in x) (draws s loss (maps.get s.enrolled node)) refl
volume_same s (call.Next node after) = refl
volume_same s (call.Recheck key) = refl
