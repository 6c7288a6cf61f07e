-- What the attributes at a path tell of the file there.
use Rattle.std.proofs.Common.{ℕ, Bool, true, false, ◌≡◌, List, [], ◌∷◌, Option, Some, None, cond, refl, sym, ◌∙◌, ap}
use Rattle.std.specs.Prelude.{is_none}
use Rattle.std.specs.Option.{option_map_or, option_map, option_or, option_and_then}
use Rattle.std.specs.FinMap as maps
use Rattle.std.proofs.lemmas.Option.{same_Some}
use Rattle.rz_events.specs.declared.files.Attr.{Attr}
use Rattle.rz_events.specs.declared.files.Kind.{Kind}
use Rattle.rz_events.specs.declared.files.Kind.TheVariants.{File, Dir, Link}
use Rattle.rz_events.specs.declared.tree.TreeCall.TheVariants as call
use Rattle.rz_events.specs.declared.tree.TreeReply.{TreeReply}
use Rattle.rz_events.specs.declared.tree.TreeReply.TheVariants as reply
use Rattle.rz_events.specs.declared.tree.TreeFault.{TreeFault}
use Rattle.rz_events.specs.declared.tree.TreeFault.TheVariants as fault
use Rattle.rz_export_model.specs.Firsts.{first_of, given_if}
use Rattle.rz_export_model.specs.Tree.{Tree, Object, Found, found_at, file_of, file_from, info_of, is_file, is_dir, is_link}
use Rattle.rz_export_model.specs.Refusals.{path_in, refusal, unreadable, walk, absent}
use Rattle.rz_export_model.specs.TreeCalls.{attr_of, reply_to}
use Rattle.rz_contents.specs.Files.{IsFileAt}
use Rattle.rz_store.proofs.Grown.{fid-there}

-- Faults, the first of which counts.

-- those of a path that may lead nowhere, and those that come behind
abbrev leads : Tree → List ℕ → Option TreeFault → Option TreeFault
leads t path rest = option_or (unreadable path) (option_or (walk t (path_in path)) (option_or (absent t (path_in path)) rest))

behind : (a b c rest : Option TreeFault) → option_or a (option_or b (option_or c None)) ≡ None → option_or a (option_or b (option_or c rest)) ≡ rest
behind None None None rest is = refl
behind None None (Some f) rest is = cc
behind None (Some f) c rest is = cc
behind (Some f) b c rest is = cc

before : (f : TreeFault) (a b c rest : Option TreeFault) → option_or a (option_or b (option_or c None)) ≡ Some f → option_or a (option_or b (option_or c rest)) ≡ Some f
before f None None None rest is = cc
before f None None (Some g) rest is = is
before f None (Some g) c rest is = is
before f (Some g) b c rest is = is

-- the faults of a file to be opened, whose kind is known
abbrev by_kind : Kind → Option TreeFault
by_kind k = option_or (given_if (is_dir k) fault.IsDir) (option_or (given_if (is_link k) fault.IsLink) None)

module _ (t : Tree) (path : List ℕ) where
  opened : (f : Found) → refusal t (call.Getattr path) ≡ None → found_at t (path_in path) ≡ Some f → refusal t (call.OpenFile path) ≡ by_kind f.object.kind
  opened f answers there =
      behind (unreadable path) (walk t (path_in path)) (absent t (path_in path)) (first_of (given_if (option_map_or is_dir (option_map (λ (g : Found). g.object.kind) (found_at t (path_in path))) false) fault.IsDir ∷ given_if (option_map_or is_link (option_map (λ (g : Found). g.object.kind) (found_at t (path_in path))) false) fault.IsLink ∷ [])) answers
      ∙ ap (λ (m : Option Found). first_of (given_if (option_map_or is_dir (option_map (λ (g : Found). g.object.kind) m) false) fault.IsDir ∷ given_if (option_map_or is_link (option_map (λ (g : Found). g.object.kind) m) false) fault.IsLink ∷ [])) there

  -- what is refused for its path is refused so where it is to be opened
  pub refuses-open : (f : TreeFault) → refusal t (call.Getattr path) ≡ Some f → refusal t (call.OpenFile path) ≡ Some f
  refuses-open f refused = before f (unreadable path) (walk t (path_in path)) (absent t (path_in path)) (first_of (given_if (option_map_or is_dir (option_map (λ (g : Found). g.object.kind) (found_at t (path_in path))) false) fault.IsDir ∷ given_if (option_map_or is_link (option_map (λ (g : Found). g.object.kind) (found_at t (path_in path))) false) fault.IsLink ∷ [])) refused

  -- the attributes are those of what stands there
  pub record Stands (attr : Attr) : Type 0 where
    pub found : Found
    pub there : found_at t (path_in path) ≡ Some found
    pub answers : refusal t (call.Getattr path) ≡ None
    pub is : attr ≡ attr_of t found

  pub stands : (cid : ℕ) (places : List ℕ) (attr : Attr) → reply.Attr attr ≡ reply_to t cid places (call.Getattr path) → Stands attr
  stands cid places attr is = go (refusal t (call.Getattr path)) (found_at t (path_in path)) refl refl is
    where
      go : (r : Option TreeFault) (m : Option Found) → refusal t (call.Getattr path) ≡ r → found_at t (path_in path) ≡ m
          → reply.Attr attr ≡ option_map_or reply.Refused r (option_map_or (λ f. reply.Attr (attr_of t f)) m (reply.Refused fault.NoEntry)) → Stands attr
      go (Some f) m refused there same = cc
      go None None answers there same = cc
      go None (Some f) answers there same = record { found = f; there = there; answers = answers; is = cc }

  pub is-file : (f : Found) → refusal t (call.Getattr path) ≡ None → found_at t (path_in path) ≡ Some f → f.object.kind ≡ File → IsFileAt t path f
  is-file f answers there kind = record { there = there; opens = opened f answers there ∙ ap by_kind kind }

  pub is-dir : (f : Found) → refusal t (call.Getattr path) ≡ None → found_at t (path_in path) ≡ Some f → f.object.kind ≡ Dir → refusal t (call.OpenFile path) ≡ Some fault.IsDir
  is-dir f answers there kind = opened f answers there ∙ ap by_kind kind

  pub is-link : (f : Found) → refusal t (call.Getattr path) ≡ None → found_at t (path_in path) ≡ Some f → f.object.kind ≡ Link → refusal t (call.OpenFile path) ≡ Some fault.IsLink
  is-link f answers there kind = opened f answers there ∙ ap by_kind kind

  last-two : (a b c : Option TreeFault) (d : Bool) (l : Bool) → option_or a (option_or b (option_or c (option_or (given_if d fault.IsDir) (option_or (given_if l fault.IsLink) None)))) ≡ None
      → (d ≡ false) × (l ≡ false)
  last-two None None None false false is = (refl, refl)
  last-two None None None true l is = cc
  last-two None None None false true is = cc
  last-two None None (Some f) d l is = cc
  last-two None (Some f) c d l is = cc
  last-two (Some f) b c d l is = cc

  file-kind : (k : Kind) → is_dir k ≡ false → is_link k ≡ false → is_file k ≡ true
  file-kind File dir link = refl
  file-kind Dir dir link = cc
  file-kind Link dir link = cc

  -- the file at a path is known by its number
  pub file-there : (f : Found) → IsFileAt t path f → file_of t f.fid ≡ Some (info_of f)
  file-there f at =
      let no = last-two (unreadable path) (walk t (path_in path)) (absent t (path_in path)) (is_dir f.object.kind) (is_link f.object.kind)
      (sym (ap (λ (m : Option Found). leads t path (first_of (given_if (option_map_or is_dir (option_map (λ (g : Found). g.object.kind) m) false) fault.IsDir ∷ given_if (option_map_or is_link (option_map (λ (g : Found). g.object.kind) m) false) fault.IsLink ∷ []))) at.there) ∙ at.opens) in
      let there = fid-there t (path_in path) f at.there in
      ap (option_and_then (file_from f.fid)) there.1 ∙ ap (λ (b : Bool). given_if b (info_of f)) (file-kind f.object.kind no.0 no.1)
