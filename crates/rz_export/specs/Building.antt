-- The parts of an export one after another: which part may follow those before it, and the export that
-- they make.
use Rattle.std.specs.Prelude.{ℕ, ◌≡◌, ◌+◌, ◌*◌, ◌≤◌, ◌<◌, ◌==◌, ◌&&◌, Bool, nat_eq, List, [], ◌∷◌, ◌++◌, length, Option, IsTrue, IsSome, IfSome}
use Rattle.std.specs.List.{list_all, list_any, IsDistinct}
use Rattle.std.specs.FinMap as maps
use Rattle.mj_angles.specs.Layout.{block_bytes_of, safe_of}
use Rattle.rz_events.specs.Volume.{Volume, Cluster}
use Rattle.rz_events.specs.declared.keys.Key.{Key}
use Rattle.rz_events.specs.declared.files.Published.{Published}
use Rattle.rz_export_model.specs.Paths.{Path}
use Rattle.rz_export_model.specs.Tree.{Object, file_of, is_file}
use Rattle.rz_export_model.specs.Export.{Export, new_export, file_blocks, is_mask, is_drawn, is_node}
use Rattle.rz_blocks.specs.Shown.{added}
use Rattle.rz_tree.specs.declared.parts.Part.{Part}
use Rattle.rz_tree.specs.declared.parts.Part.TheVariants as part
use Rattle.rz_tree.specs.Added as trees
use Rattle.rz_tree.specs.Added.{is_behind, IsNextObject, IsNextName, AreNamed}
pub use Rattle.rz_tree.specs.Added.{IsRootPart}

-- ---- the export that parts make

-- the export with one more part
abbrev pub with_part : Export → Part → Export
with_part s (part.Counters last made) = record s { tree = trees.with_part s.tree (part.Counters last made); last = last }
with_part s (part.Object fid kind mode mtime size cid places target) =
    record s { tree = trees.with_part s.tree (part.Object fid kind mode mtime size cid places target) }
with_part s (part.Name path fid) = record s { tree = trees.with_part s.tree (part.Name path fid) }
with_part s (part.Block key latest published) = record s { blocks = added s.blocks key latest published }
with_part s (part.Enrolled node loss fence) = record s { enrolled = maps.insert s.enrolled node (record { loss = loss; fence = fence }) }

-- the export with all these parts, one after another
abbrev pub with_parts : Export → List Part → Export
with_parts s [] = s
with_parts s (p ∷ ps) = with_parts (with_part s p) ps

-- the export of a volume that has these parts
abbrev pub made_of : Volume → List Part → Export
made_of volume parts = with_parts (new_export volume 0) parts

-- ---- the rules of the parts

-- whether these are nodes of a cluster that has this number
abbrev pub is_home : ℕ → List ℕ → Cluster → Bool
is_home cid places c = (c.cid == cid) && list_all (λ node. list_any (λ n. n.sid == node) c.nodes) places

-- a file lies on as many nodes of one cluster as the layout has positions, and is not too long
pub record LiesIn (volume : Volume) (o : Object) : Type 0 where
  pub home : IsTrue (list_any (is_home o.cid o.places) volume.clusters)
  pub all_places : length o.places ≡ safe_of volume.layout
  pub distinct : IsDistinct nat_eq o.places
  pub short : o.size ≤ file_blocks * block_bytes_of volume.layout

-- neither a block nor an enrolment stands among the parts so far
pub record IsBlockless (s : Export) : Type 0 where
  pub no_blocks : s.blocks ≡ maps.empty
  pub no_enrolments : s.enrolled ≡ maps.empty

-- the next object, which of a file lies in the volume
pub record MayBeObject (s : Export) (fid : ℕ) (o : Object) : Type 0 where
  pub next : IsNextObject s.tree fid o
  pub lies : IsTrue (is_file o.kind) → LiesIn s.volume o
  pub before_blocks : IsBlockless s

-- the next name
pub record MayBeName (s : Export) (path : Path) (fid : ℕ) : Type 0 where
  pub next : IsNextName s.tree path fid
  pub before_blocks : IsBlockless s

-- a block may be published so: under a drawn stamp, at as many positions as a write stores, and within its file
pub record MayBePublished (s : Export) (key : Key) (p : Published) : Type 0 where
  pub drawn : IsTrue (is_drawn s p.stamp)
  pub mask : IsTrue (is_mask s.volume.layout p.mask)
  pub fits : p.length ≤ block_bytes_of s.volume.layout
  pub within : IfSome (file_of s.tree key.fid) (λ info. key.block * block_bytes_of s.volume.layout + p.length ≤ info.size)

-- the next block: one of a file, that was begun with a drawn stamp
pub record MayBeBlock (s : Export) (key : Key) (latest : ℕ) (published : Option Published) : Type 0 where
  pub rising : IsTrue (is_behind s.blocks key)
  pub live : IsSome (file_of s.tree key.fid)
  pub near : key.block < file_blocks
  pub begun : IsTrue (is_drawn s latest)
  pub public : IfSome published (MayBePublished s key)
  pub before_enrolments : s.enrolled ≡ maps.empty

-- the next enrolment: one of a node of the volume, with a drawn fence
pub record MayBeEnrolled (s : Export) (node fence : ℕ) : Type 0 where
  pub rising : IsTrue (is_behind s.enrolled node)
  pub known : IsTrue (is_node s node)
  pub drawn : IsTrue (is_drawn s fence)

-- the first part: the counters
abbrev pub IsCounters : Part → Type 0
IsCounters (part.Counters last made) = Unit {0}
IsCounters _ = ⊥

-- any later part
abbrev pub MayBeNext : Export → Part → Type 0
MayBeNext s (part.Counters last made) = ⊥
MayBeNext s (part.Object fid kind mode mtime size cid places target) =
    MayBeObject s fid (record { kind = kind; mode = mode; mtime = mtime; target = target; size = size; cid = cid; places = places })
MayBeNext s (part.Name path fid) = MayBeName s path fid
MayBeNext s (part.Block key latest published) = MayBeBlock s key latest published
MayBeNext s (part.Enrolled node loss fence) = MayBeEnrolled s node fence

-- whether a part breaks no rule with those before it
abbrev pub MayFollow : Volume → List Part → Part → Type 0
MayFollow volume [] p = IsCounters p
MayFollow volume (first ∷ []) p = IsRootPart p
MayFollow volume (first ∷ root ∷ more) p = MayBeNext (made_of volume (first ∷ root ∷ more)) p

-- each of these parts may follow those before it
abbrev pub AllFollow : Volume → List Part → List Part → Type 0
AllFollow volume before [] = Unit {0}
AllFollow volume before (p ∷ ps) = MayFollow volume before p × AllFollow volume (before ++ p ∷ []) ps

-- the parts of an export: each may follow those before it, the root is there, and each object has a name
pub record ArePartsOf (volume : Volume) (parts : List Part) : Type 0 where
  pub each : AllFollow volume [] parts
  pub rooted : 2 ≤ length parts
  pub named : AreNamed (made_of volume parts).tree

-- ---- one part at a time, as the export is built

-- the part may be added to what is built so far
abbrev pub MayAdd : Export → Part → Type 0
MayAdd s (part.Counters last made) = s ≡ new_export s.volume 0
MayAdd s (part.Object fid kind mode mtime size cid places target) =
    trees.MayAdd s.tree (part.Object fid kind mode mtime size cid places target) × (s.blocks ≡ maps.empty)
MayAdd s (part.Name path fid) = IsNextName s.tree path fid × (s.blocks ≡ maps.empty)
MayAdd s (part.Block key latest published) = MayBeBlock s key latest published
MayAdd s (part.Enrolled node loss fence) = MayBeEnrolled s node fence

-- these parts may be added one after another
abbrev pub AllAdd : Export → List Part → Type 0
AllAdd s [] = Unit {0}
AllAdd s (p ∷ ps) = MayAdd s p × AllAdd (with_part s p) ps
