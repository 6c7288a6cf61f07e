-- Rows that are taken from their ends.
use Rattle.std.proofs.Common.{◌≡◌, ◌<◌, List, [], ◌∷◌, ◌++◌, map, reverse, length, get_or, Option, Some, None, IsSome, refl, sym, ◌∙◌, ap, ap₂, arith, append_assoc}
use Rattle.std.specs.Option.{option_flatten, option_to_list}
use Rattle.std.proofs.lemmas.List.{append-nil, reverse-append}
use Rattle.rz_nodes.specs.declared.arriving.KnownNode.{KnownNode}
use Rattle.rz_nodes.specs.declared.arriving.Arrival.{Arrival}
use Rattle.rz_nodes.specs.declared.arriving.Missing.{Missing}
use Rattle.rz_shared.specs.declared.seating.Arrived.{Arrived}
use Rattle.rz_store_opening.specs.Opening.{arrived_at, arrived_by, disk_in, disks_in}

-- one goes from the end of a row, of which something is said, to the end of a pile
one-out : {B : Type 0} (said said' pile pile' whole : List B) (y : B) → said ≡ said' ++ y ∷ [] → pile' ≡ pile ++ y ∷ [] → said ++ reverse pile ≡ whole → said' ++ reverse pile' ≡ whole
one-out said said' pile pile' whole y is more was =
    ap (λ l. said' ++ l) (ap reverse more ∙ reverse-append pile (y ∷ [])) ∙ sym (append_assoc said' (y ∷ []) (reverse pile)) ∙ ap (λ l. l ++ reverse pile) (sym is) ∙ was

-- none is out yet
pub none-out : {B : Type 0} (said pile : List B) → length pile ≡ 0 → said ++ reverse pile ≡ said
none-out said [] none = append-nil said
none-out said (y ∷ pile) none = absurd (omega (arith, none))

-- all are out
pub all-out : {A B : Type 0} (f : A → B) (row : List A) (pile whole : List B) → length row ≡ 0 → map f row ++ reverse pile ≡ whole → reverse pile ≡ whole
all-out f [] pile whole none was = was
all-out f (a ∷ row) pile whole none was = absurd (omega (arith, none))

-- ---- what came of the disks

none-arrived : {D : Type 0} (known : List KnownNode) → arrived_by {D = D} known [] ≡ []
none-arrived [] = refl
none-arrived (k ∷ known) = refl

arrived-more : {D : Type 0} (known : List KnownNode) (row : List (Arrival D)) (a : Arrival D) (d : KnownNode) → length row < length known
    → arrived_by known (row ++ a ∷ []) ≡ arrived_by known row ++ arrived_at (get_or known (length row) d) a ∷ []
arrived-more [] row a d low = absurd (omega (arith, low))
arrived-more (k ∷ known) [] a d low = ap (λ l. arrived_at k a ∷ l) (none-arrived known)
arrived-more (k ∷ known) (b ∷ row) a d low = ap (λ l. arrived_at k b ∷ l) (arrived-more known row a d (omega (arith, low)))

pub node-out : {D : Type 0} (known : List KnownNode) (row rest : List (Arrival D)) (a : Arrival D) (d : KnownNode) (node : Arrived D) (pile pile' whole : List (Arrived D))
    → row ≡ rest ++ a ∷ [] → length rest < length known → node ≡ arrived_at (get_or known (length rest) d) a → pile' ≡ pile ++ node ∷ [] → arrived_by known row ++ reverse pile ≡ whole → arrived_by known rest ++ reverse pile' ≡ whole
node-out known row rest a d node pile pile' whole is low at more was =
    one-out (arrived_by known row) (arrived_by known rest) pile pile' whole (arrived_at (get_or known (length rest) d) a) (ap (arrived_by known) is ∙ arrived-more known rest a d low) (more ∙ ap (λ y. pile ++ y ∷ []) at) was

pub nodes-out : {D : Type 0} (known : List KnownNode) (row : List (Arrival D)) (pile whole : List (Arrived D)) → length row ≡ 0 → arrived_by known row ++ reverse pile ≡ whole → reverse pile ≡ whole
nodes-out known [] pile whole none was = ap (λ l. l ++ reverse pile) (sym (none-arrived known)) ∙ was
nodes-out known (a ∷ row) pile whole none was = absurd (omega (arith, none))

-- ---- the disks

disks-more : {D : Type 0} (nodes : List (Arrived D)) (missing : List (Option (Missing D))) (a : Arrived D) (why : Option (Missing D)) → length missing ≡ length nodes
    → disks_in (nodes ++ a ∷ []) (missing ++ why ∷ []) ≡ disks_in nodes missing ++ disk_in a why ∷ []
disks-more [] [] a why count = refl
disks-more [] (m ∷ missing) a why count = absurd (omega (arith, count))
disks-more (b ∷ nodes) [] a why count = absurd (omega (arith, count))
disks-more (b ∷ nodes) (m ∷ missing) a why count = ap (λ l. disk_in b m ∷ l) (disks-more nodes missing a why (omega (arith, count)))

-- the last of a row that has one
pub last-out : {A : Type 0} (old new : List (Option A)) (r : Option (Option A)) → old ≡ new ++ option_to_list r → IsSome r → (y : Option A) × (option_flatten r ≡ y) × (old ≡ new ++ y ∷ []) × (length (option_to_list r) ≡ 1)
last-out old new (Some y) is there = (y, refl, is, refl)
last-out old new None is there = absurd (cc)

pub disk-out : {D : Type 0} (nodes nodes' : List (Arrived D)) (missing missing' : List (Option (Missing D))) (a : Arrived D) (why : Option (Missing D)) (disk : Option D) (pile pile' whole : List (Option D))
    → nodes ≡ nodes' ++ a ∷ [] → missing ≡ missing' ++ why ∷ [] → length missing' ≡ length nodes' → disk ≡ disk_in a why → pile' ≡ pile ++ disk ∷ [] → disks_in nodes missing ++ reverse pile ≡ whole
    → disks_in nodes' missing' ++ reverse pile' ≡ whole
disk-out nodes nodes' missing missing' a why disk pile pile' whole is js count at more was =
    one-out (disks_in nodes missing) (disks_in nodes' missing') pile pile' whole (disk_in a why) (ap₂ (λ ns ms. disks_in ns ms) is js ∙ disks-more nodes' missing' a why count) (more ∙ ap (λ y. pile ++ y ∷ []) at) was
