-- The used cells of a node, after the blocks or the files change.
use Rattle.std.proofs.Common.{◌≡◌, ℕ, ◌+◌, ◌^◌, ◌<◌, Bool, true, false, List, Option, Some, None, is_some, sym, ap, ◌∙◌, refl, arith}
use Rattle.std.specs.Option.{option_map, option_map_or, option_and_then}
use Rattle.std.specs.FinMap as maps
use Rattle.rz_events.specs.declared.keys.Key.{Key}
use Rattle.rz_events.specs.declared.files.FileInfo.{FileInfo}
use Rattle.rz_events.specs.declared.files.Listed.{Listed}
use Rattle.rz_events.specs.declared.files.Published.{Published}
use Rattle.rz_export_model.specs.Firsts.{given_if}
use Rattle.rz_export_model.specs.Tree.{Tree, Object, file_of, file_from, info_of, is_file}
use Rattle.rz_export_model.specs.Export.{Block, Blocks, is_on}
use Rattle.rz_export.specs.Nodes.{is_named, moved}
use Rattle.rz_export.specs.Kept.{lies_on, used_in}
use Rattle.rz_export_model.proofs.Files.{seen, view}
use Rattle.rz_export.proofs.Counts.{one_if, at_key, alike}

-- whether a block lies on the node, by where its file lies and what is published
abbrev pub counts_at : ℕ → Option (List ℕ) → Option Published → Bool
counts_at node None published = false
counts_at node (Some places) published = is_named node places published

listed_counts : (node : ℕ) (key : Key) (info : FileInfo) (o : Option Published)
    → option_map_or (is_on node) (option_map (λ p. (let l : Listed = record { key = key; info = info; published = p } in l)) o) false ≡ is_named node info.places o
listed_counts node key info None = refl
listed_counts node key info (Some p) = refl

pub counts-view : (t : Tree) (node : ℕ) (k : Key) (b : Block) → lies_on t node (k, b) ≡ counts_at node (view t.objects k.fid) b.published
counts-view t node k b = go (maps.get t.objects k.fid)
  where
    kind : (o : Object) (f : Bool)
        → option_map_or (is_on node) (option_and_then (λ info. option_map (λ p. (let l : Listed = record { key = k; info = info; published = p } in l)) b.published) (given_if f (info_of (record { fid = k.fid; object = o })))) false
        ≡ counts_at node (given_if f o.places) b.published
    kind o true = listed_counts node k (info_of (record { fid = k.fid; object = o })) b.published
    kind o false = refl

    go : (o : Option Object)
        → option_map_or (is_on node) (option_and_then (λ info. option_map (λ p. (let l : Listed = record { key = k; info = info; published = p } in l)) b.published) (option_and_then (file_from k.fid) o)) false
        ≡ counts_at node (seen o) b.published
    go None = refl
    go (Some o) = kind o (is_file o.kind)

pub file-view : (t : Tree) (fid : ℕ) → option_map (λ (info : FileInfo). info.places) (file_of t fid) ≡ view t.objects fid
file-view t fid = go (maps.get t.objects fid)
  where
    kind : (o : Object) (f : Bool) → option_map (λ (info : FileInfo). info.places) (given_if f (info_of (record { fid = fid; object = o }))) ≡ given_if f o.places
    kind o true = refl
    kind o false = refl

    go : (o : Option Object) → option_map (λ (info : FileInfo). info.places) (option_and_then (file_from fid) o) ≡ seen o
    go None = refl
    go (Some o) = kind o (is_file o.kind)

some_map : (o : Option FileInfo) → is_some (option_map (λ (info : FileInfo). info.places) o) ≡ is_some o
some_map None = refl
some_map (Some i) = refl

-- a file is live where it lies somewhere
pub live-view : (t : Tree) (fid : ℕ) → is_some (file_of t fid) ≡ is_some (view t.objects fid)
live-view t fid = sym (some_map (file_of t fid)) ∙ ap is_some (file-view t fid)

-- a block of a file that lies there
pub counts-live : (t : Tree) (node : ℕ) (k : Key) (b : Block) (info : FileInfo) → file_of t k.fid ≡ Some info → lies_on t node (k, b) ≡ is_named node info.places b.published
counts-live t node k b info is =
    counts-view t node k b
    ∙ ap (λ o. counts_at node o b.published) (sym (file-view t k.fid) ∙ ap (option_map (λ (i : FileInfo). i.places)) is)

-- only what is published of a block counts
pub counts-published : (t : Tree) (node : ℕ) (k : Key) (o : Option Block) (n : ℕ)
    → at_key (lies_on t node) k o ≡ lies_on t node (k, record { latest = n; published = option_and_then (λ b. b.published) o })
counts-published t node k None n = sym (counts-view t node k (record { latest = n; published = None }) ∙ go (view t.objects k.fid))
  where
    go : (o : Option (List ℕ)) → counts_at node o None ≡ false
    go None = refl
    go (Some places) = refl
counts-published t node k (Some b) n = refl

-- where the files of the blocks lie as before, the nodes use as many cells
pub used-alike : (t u : Tree) (m : Blocks) (node : ℕ) → ((k : Key) (b : Block) → maps.get m k ≡ Some b → view u.objects k.fid ≡ view t.objects k.fid) → used_in u m node ≡ used_in t m node
used-alike t u m node same = alike (lies_on u node) (lies_on t node) m (λ k b at.
    counts-view u node k b ∙ ap (λ o. counts_at node o b.published) (same k b at) ∙ sym (counts-view t node k b))

-- a count that is moved is the new count
pub moved-count : (was is : Bool) (old new : ℕ) → new + one_if was ≡ old + one_if is → new < 2 ^ 64 → moved was is old ≡ new
moved-count true true old new e low = omega arith
moved-count true false old new e low = omega arith
moved-count false true old new e low = omega arith
moved-count false false old new e low = omega arith
