-- The words after the command, cut into items.
use Rattle.std.specs.Prelude.{ℕ, ◌≡◌, ◌<◌, ◌==◌, Bool, true, false, if◌then◌else◌, List, [], ◌∷◌, Option, Some, None, codes, length}
use Rattle.std.specs.List.{before_first, after_first}
use Rattle.std.specs.Str.{bytes_eq}
use Rattle.std.specs.Borrow.{Bor}
use Rattle.rz_request.specs.declared.items.ItemKind.{ItemKind}
use Rattle.rz_request.specs.declared.items.ItemKind.TheVariants.{Disks, Folder, Plain}

abbrev pub Text : Type 0
Text = List ℕ

-- an option with its value, or a word by itself
abbrev pub Item : Type 0
Item = ItemKind × Text

abbrev pub option_named : Text → Option ItemKind
option_named name =
    if bytes_eq name (codes "--disks") then Some Disks
    else if bytes_eq name (codes "--dir") then Some Folder
    else None

-- what stands before the first `=` of a word, and what stands after it
abbrev pub before_equals : Text → Text
before_equals word = before_first (λ b. b == 61) word

abbrev pub after_equals : Text → Text
after_equals word = after_first (λ b. b == 61) word

abbrev pub attached : Option ItemKind → Text → Item
attached (Some kind) word = (kind, after_equals word)
attached None word = (Plain, word)

-- the item that one word spells: an option with its value behind `=`, or a word by itself
abbrev pub item : Text → Item
item word = attached (option_named (before_equals word)) word

-- an option whose value is the next word, or what the first word spells; and the items after it
abbrev pub spelled : Option ItemKind → Text → Text → List Item → List Item → List Item
spelled (Some kind) word value after_two after_one = (kind, value) ∷ after_two
spelled None word value after_two after_one = item word ∷ after_one

-- the items that words spell: the value of an option stands behind `=`, or is the next word
abbrev pub items : List Text → List Item
items [] = []
items (word ∷ []) = item word ∷ []
items (word ∷ value ∷ words) = spelled (option_named word) word value (items words) (items (value ∷ words))

abbrev pub is_kind : ItemKind → ItemKind → Bool
is_kind Disks Disks = true
is_kind Folder Folder = true
is_kind Plain Plain = true
is_kind _ _ = false

-- what the items of a kind state, in their order
abbrev pub values : ItemKind → List Item → List Text
values kind [] = []
values kind (i ∷ is) = if is_kind i.0 kind then i.1 ∷ values kind is else values kind is

-- no text, the one, or more than one
abbrev pub AreStated : Option (Option (Bor Text)) → List Text → Type 0
AreStated None texts = 1 < length texts
AreStated (Some None) texts = texts ≡ []
AreStated (Some (Some t)) texts = texts ≡ t.now ∷ []
