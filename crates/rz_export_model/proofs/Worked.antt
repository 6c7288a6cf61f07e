-- Definitions at worked values.
use Rattle.std.proofs.Common.{◌≡◌, ℕ, [], ◌∷◌, Some, None, refl, true, false, codes}
use Rattle.std.specs.Prelude.{replicate}
use Rattle.mj_angles.specs.declared.layout.Layout.TheVariants.{L0}
use Rattle.rz_events.specs.declared.files.NodeSpec.{NodeSpec}
use Rattle.rz_events.specs.Volume.{Volume}
use Rattle.rz_export_model.specs.Paths.{path_of, is_name, moved_path, right_under}
use Rattle.rz_export_model.specs.Place.{place}

reads-root : path_of (codes "/") ≡ Some []
reads-root = refl

reads-two : path_of (codes "/a/bc") ≡ Some (codes "a" ∷ codes "bc" ∷ [])
reads-two = refl

no-text : path_of [] ≡ None
no-text = refl

no-slash : path_of (codes "a") ≡ None
no-slash = refl

doubled : path_of (codes "/a//b") ≡ None
doubled = refl

trailing : path_of (codes "/a/") ≡ None
trailing = refl

one-dot : path_of (codes "/a/./b") ≡ None
one-dot = refl

two-dots : path_of (codes "/..") ≡ None
two-dots = refl

three-dots : path_of (codes "/...") ≡ Some (codes "..." ∷ [])
three-dots = refl

zero-byte : path_of (47 ∷ 97 ∷ 0 ∷ []) ≡ None
zero-byte = refl

longest : is_name (replicate 255 97) ≡ true
longest = refl

too-long : is_name (replicate 256 97) ≡ false
too-long = refl

moves : moved_path (codes "a" ∷ []) (codes "x" ∷ codes "y" ∷ []) (codes "a" ∷ codes "b" ∷ []) ≡ codes "x" ∷ codes "y" ∷ codes "b" ∷ []
moves = refl

stays : moved_path (codes "a" ∷ []) (codes "x" ∷ []) (codes "ab" ∷ []) ≡ codes "ab" ∷ []
stays = refl

under : right_under (codes "a" ∷ []) (codes "a" ∷ codes "b" ∷ []) ≡ Some (codes "b")
under = refl

abbrev node : ℕ → NodeSpec
node sid = record { sid = sid; cells = 64 }

abbrev two_clusters : Volume
two_clusters = record {
  layout = L0;
  clusters =
      record { cid = 7; nodes = node 9 ∷ node 8 ∷ node 6 ∷ node 5 ∷ node 4 ∷ [] }
      ∷ record { cid = 3; nodes = node 1 ∷ node 2 ∷ node 3 ∷ node 10 ∷ [] }
      ∷ [];
}

-- as many free cells in both: the lesser number; of its nodes the fullest stands last
at-a-tie : place two_clusters (1 ∷ 1 ∷ 1 ∷ 1 ∷ 1 ∷ 0 ∷ 2 ∷ 1 ∷ 2 ∷ []) ≡ record { cid = 3; places = 2 ∷ 10 ∷ 3 ∷ 1 ∷ [] }
at-a-tie = refl

-- one more free cell in the first
more-cells : place two_clusters (1 ∷ 1 ∷ 1 ∷ 2 ∷ 1 ∷ 0 ∷ 2 ∷ 1 ∷ 2 ∷ []) ≡ record { cid = 7; places = 5 ∷ 4 ∷ 6 ∷ 8 ∷ [] }
more-cells = refl
