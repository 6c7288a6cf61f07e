-- Each entry is spelled in one way.
use Rattle.std.proofs.Common.{◌≡◌, ℕ, ◌==◌, true, List, [], ◌∷◌, ◌++◌, Option, Some, Result, Ok, Err, IfOk, refl, sym, ◌∙◌, ap, subst}
use Rattle.std.proofs.lemmas.Bool.{eqb-true}
use Rattle.std.proofs.lemmas.List.{append-nil}
use Rattle.byteorder.specs.Endian.{little_bytes}
use Rattle.rz_events.specs.declared.keys.Key.{Key}
use Rattle.rz_events.specs.declared.tree.TreeCall.{TreeCall}
use Rattle.rz_tree.specs.declared.parts.Part.{Part}
use Rattle.rz_tree.specs.declared.parts.Part.TheVariants.{Counters, Object, Name, Block, Enrolled}
use Rattle.rz_journal_text.specs.declared.entry.JournalEntry.{JournalEntry}
use Rattle.rz_journal_text.specs.declared.entry.JournalEntry.TheVariants.{Tree, Begin, Publish, Enroll, Built}
use Rattle.rz_journal_text.specs.declared.fault.EntryFault.{EntryFault}
use Rattle.rz_journal_text.specs.declared.fault.EntryFault.TheVariants.{NoMemory, BadEntry}
use Rattle.rz_journal_text.specs.Spelling.{key_bytes, number_of, field_bytes, call_bytes, part_kind, part_fields, kind_of, entry_fields, entry_bytes, MayStand, IsWide, IsKey, IsEntry, Spells}
use Rattle.rz_journal_text.specs.Fronts.{Front, ◌>>=◌, done, byte, number, key, call_numbered, part_of_kind, tree, begin, publish, enroll, built, fields, entry, ended, whole, Gives, IsThis}
use Rattle.rz_journal_text.proofs.Steps.{Bytes, none_some, IsLawful, step_again, last_again, step_found, joined, carried, either_way}
use Rattle.rz_journal_text.proofs.FieldLaws.{one_byte, byte_law, number_law, key_law}
use Rattle.rz_journal_text.proofs.CallLaws.{call_again, call_found}
use Rattle.rz_journal_text.proofs.PartLaws.{part_again, part_found}

abbrev pub EntryFits : JournalEntry → Type 0
EntryFits e = IsEntry e × MayStand e

-- an entry is what its kind and its fields say
abbrev pub EntryFound : ℕ → List ℕ → JournalEntry → List ℕ → Type 0
EntryFound n bytes e rest = (kind_of e ≡ n) × EntryFits e × (entry_fields e ++ rest ≡ bytes)

-- ---- calls on names

call_law : (n : ℕ) → IsLawful (λ c. field_bytes c) (λ c. (number_of c ≡ n) × IsEntry (Tree c) × MayStand (Tree c)) (call_numbered n)
call_law n = record {
  again = λ c rest fits. subst (λ (k : ℕ). call_numbered k (field_bytes c ++ rest) ≡ Some (c, rest)) fits.0 (call_again c rest (fits.1, fits.2));
  found = λ bytes rest c small is. let at = call_found n bytes rest c small is in ((at.0, at.1.0, at.1.1), at.2);
}

abbrev call_from : ℕ → Front JournalEntry
call_from n = call_numbered n >>= (λ call. done (Tree call))

tree_again : (c : TreeCall) (rest : List ℕ) → EntryFits (Tree c) → tree (call_bytes c ++ rest) ≡ Some (Tree c, rest)
unfolding tree
tree_again c rest fits =
    step_again one_byte (λ b. Unit {0}) byte byte_law call_from (number_of c) (field_bytes c) rest tt
    ∙ last_again (λ c. field_bytes c) (λ x. (number_of x ≡ number_of c) × IsEntry (Tree x) × MayStand (Tree x)) (call_numbered (number_of c)) (call_law (number_of c)) (λ call. done (Tree call)) c rest (refl, fits.0, fits.1)

tree_found : (bytes rest : List ℕ) (e : JournalEntry) → Bytes bytes → tree bytes ≡ Some (e, rest) → EntryFound 1 bytes e rest
unfolding tree
tree_found bytes rest e small is =
    let a = step_found one_byte (λ b. Unit {0}) byte byte_law call_from bytes rest e small is in
    let b = step_found (λ c. field_bytes c) (λ x. (number_of x ≡ a.x) × IsEntry (Tree x) × MayStand (Tree x)) (call_numbered a.x) (call_law a.x) (λ call. done (Tree call)) a.middle rest e a.small a.then in
    carried (EntryFound 1 bytes) (Tree b.x) e b.middle rest b.then
    (refl {a = 1}, (b.fits.1, b.fits.2), ap (λ (n : ℕ). n ∷ (field_bytes b.x ++ b.middle)) b.fits.0 ∙ ap (λ (l : List ℕ). a.x ∷ l) b.spelled ∙ a.spelled)

-- ---- begins

abbrev bytes_from : Key → Front JournalEntry
bytes_from k = number 4 >>= (λ n. done (Begin k n))

begin_again : (k : Key) (n : ℕ) (rest : List ℕ) → IsKey k → IsWide 4 n → begin ((key_bytes k ++ little_bytes 4 n) ++ rest) ≡ Some (Begin k n, rest)
unfolding begin
begin_again k n rest wide-k wide-n =
    step_again key_bytes IsKey key key_law bytes_from k (little_bytes 4 n) rest wide-k
    ∙ last_again (little_bytes 4) (IsWide 4) (number 4) (number_law 4) (λ n. done (Begin k n)) n rest wide-n

begin_found : (bytes rest : List ℕ) (e : JournalEntry) → Bytes bytes → begin bytes ≡ Some (e, rest) → EntryFound 2 bytes e rest
unfolding begin
begin_found bytes rest e small is =
    let a = step_found key_bytes IsKey key key_law bytes_from bytes rest e small is in
    let b = step_found (little_bytes 4) (IsWide 4) (number 4) (number_law 4) (λ n. done (Begin a.x n)) a.middle rest e a.small a.then in
    carried (EntryFound 2 bytes) (Begin a.x b.x) e b.middle rest b.then
    (refl {a = 2}, ((a.fits, b.fits), tt), joined (key_bytes a.x) (little_bytes 4 b.x) a.middle b.middle bytes b.spelled a.spelled)

-- ---- publishes

abbrev length_from : Key → ℕ → ℕ → Front JournalEntry
length_from k stamp mask = number 4 >>= (λ n. done (Publish k stamp mask n))

abbrev mask_from : Key → ℕ → Front JournalEntry
mask_from k stamp = number 2 >>= length_from k stamp

abbrev stamp_from : Key → Front JournalEntry
stamp_from k = number 8 >>= mask_from k

publish_again : (k : Key) (stamp mask n : ℕ) (rest : List ℕ) → EntryFits (Publish k stamp mask n) → publish (entry_fields (Publish k stamp mask n) ++ rest) ≡ Some (Publish k stamp mask n, rest)
unfolding publish
publish_again k stamp mask n rest fits =
    step_again key_bytes IsKey key key_law stamp_from k (little_bytes 8 stamp ++ (little_bytes 2 mask ++ little_bytes 4 n)) rest fits.0.0
    ∙ step_again (little_bytes 8) (IsWide 8) (number 8) (number_law 8) (mask_from k) stamp (little_bytes 2 mask ++ little_bytes 4 n) rest fits.0.1
    ∙ step_again (little_bytes 2) (IsWide 2) (number 2) (number_law 2) (length_from k stamp) mask (little_bytes 4 n) rest fits.0.2
    ∙ last_again (little_bytes 4) (IsWide 4) (number 4) (number_law 4) (λ n. done (Publish k stamp mask n)) n rest fits.0.3

publish_found : (bytes rest : List ℕ) (e : JournalEntry) → Bytes bytes → publish bytes ≡ Some (e, rest) → EntryFound 3 bytes e rest
unfolding publish
publish_found bytes rest e small is =
    let a = step_found key_bytes IsKey key key_law stamp_from bytes rest e small is in
    let b = step_found (little_bytes 8) (IsWide 8) (number 8) (number_law 8) (mask_from a.x) a.middle rest e a.small a.then in
    let c = step_found (little_bytes 2) (IsWide 2) (number 2) (number_law 2) (length_from a.x b.x) b.middle rest e b.small b.then in
    let d = step_found (little_bytes 4) (IsWide 4) (number 4) (number_law 4) (λ n. done (Publish a.x b.x c.x n)) c.middle rest e c.small c.then in
    let at-c = joined (little_bytes 2 c.x) (little_bytes 4 d.x) c.middle d.middle b.middle d.spelled c.spelled in
    let at-b = joined (little_bytes 8 b.x) (little_bytes 2 c.x ++ little_bytes 4 d.x) b.middle d.middle a.middle at-c b.spelled in
    carried (EntryFound 3 bytes) (Publish a.x b.x c.x d.x) e d.middle rest d.then
    (refl {a = 3}, ((a.fits, b.fits, c.fits, d.fits), tt), joined (key_bytes a.x) (little_bytes 8 b.x ++ (little_bytes 2 c.x ++ little_bytes 4 d.x)) a.middle d.middle bytes at-b a.spelled)

-- ---- enrolments

abbrev loss_from : ℕ → Front JournalEntry
loss_from node = number 8 >>= (λ loss. done (Enroll node loss))

enroll_again : (node loss : ℕ) (rest : List ℕ) → IsWide 2 node → IsWide 8 loss → enroll ((little_bytes 2 node ++ little_bytes 8 loss) ++ rest) ≡ Some (Enroll node loss, rest)
unfolding enroll
enroll_again node loss rest wide-node wide-loss =
    step_again (little_bytes 2) (IsWide 2) (number 2) (number_law 2) loss_from node (little_bytes 8 loss) rest wide-node
    ∙ last_again (little_bytes 8) (IsWide 8) (number 8) (number_law 8) (λ loss. done (Enroll node loss)) loss rest wide-loss

enroll_found : (bytes rest : List ℕ) (e : JournalEntry) → Bytes bytes → enroll bytes ≡ Some (e, rest) → EntryFound 4 bytes e rest
unfolding enroll
enroll_found bytes rest e small is =
    let a = step_found (little_bytes 2) (IsWide 2) (number 2) (number_law 2) loss_from bytes rest e small is in
    let b = step_found (little_bytes 8) (IsWide 8) (number 8) (number_law 8) (λ loss. done (Enroll a.x loss)) a.middle rest e a.small a.then in
    carried (EntryFound 4 bytes) (Enroll a.x b.x) e b.middle rest b.then
    (refl {a = 4}, ((a.fits, b.fits), tt), joined (little_bytes 2 a.x) (little_bytes 8 b.x) a.middle b.middle bytes b.spelled a.spelled)

-- ---- parts

part_law : (n : ℕ) → IsLawful (λ p. part_fields p) (λ p. (part_kind p ≡ n) × IsEntry (Built p) × MayStand (Built p)) (part_of_kind n)
part_law n = record {
  again = λ p rest fits. subst (λ (k : ℕ). part_of_kind k (part_fields p ++ rest) ≡ Some (p, rest)) fits.0 (part_again p rest (fits.1, fits.2));
  found = λ bytes rest p small is. let at = part_found n bytes rest p small is in ((at.0, at.1.0, at.1.1), at.2);
}

built_again : (p : Part) (rest : List ℕ) → EntryFits (Built p) → built (part_kind p) (part_fields p ++ rest) ≡ Some (Built p, rest)
unfolding built
built_again p rest fits =
    last_again (λ p. part_fields p) (λ x. (part_kind x ≡ part_kind p) × IsEntry (Built x) × MayStand (Built x)) (part_of_kind (part_kind p)) (part_law (part_kind p)) (λ part. done (Built part)) p rest (refl, fits.0, fits.1)

built_found : (n : ℕ) (bytes rest : List ℕ) (e : JournalEntry) → Bytes bytes → built n bytes ≡ Some (e, rest) → EntryFound n bytes e rest
unfolding built
built_found n bytes rest e small is =
    let a = step_found (λ p. part_fields p) (λ x. (part_kind x ≡ n) × IsEntry (Built x) × MayStand (Built x)) (part_of_kind n) (part_law n) (λ part. done (Built part)) bytes rest e small is in
    carried (EntryFound n bytes) (Built a.x) e a.middle rest a.then (a.fits.0, (a.fits.1, a.fits.2), a.spelled)

-- ---- all entries

built_kind : (p : Part) (rest : List ℕ) → fields (part_kind p) rest ≡ built (part_kind p) rest
unfolding fields
built_kind (Counters last made) rest = refl
built_kind (Object fid k mode mtime size cid ns target) rest = refl
built_kind (Name path fid) rest = refl
built_kind (Block k latest o) rest = refl
built_kind (Enrolled node loss fence) rest = refl

fields_again : (e : JournalEntry) (rest : List ℕ) → EntryFits e → fields (kind_of e) (entry_fields e ++ rest) ≡ Some (e, rest)
unfolding fields
fields_again (Tree c) rest fits = tree_again c rest fits
fields_again (Begin k n) rest fits = begin_again k n rest fits.0.0 fits.0.1
fields_again (Publish k stamp mask n) rest fits = publish_again k stamp mask n rest fits
fields_again (Enroll node loss) rest fits = enroll_again node loss rest fits.0.0 fits.0.1
fields_again (Built p) rest fits = built_kind p (part_fields p ++ rest) ∙ built_again p rest fits

fields_found : (n : ℕ) (bytes rest : List ℕ) (e : JournalEntry) → Bytes bytes → fields n bytes ≡ Some (e, rest) → EntryFound n bytes e rest
unfolding fields
fields_found n bytes rest e small is =
    let G : Type 0 = EntryFound n bytes e rest in
    let shown : (m : ℕ) → EntryFound m bytes e rest → (n == m) ≡ true → G = λ m holds at. subst (λ (k : ℕ). EntryFound k bytes e rest) (sym (eqb-true n m at)) holds in
    either_way (n == 1) tree _ bytes rest e G (λ at read. shown 1 (tree_found bytes rest e small read) at)
    (either_way (n == 2) begin _ bytes rest e G (λ at read. shown 2 (begin_found bytes rest e small read) at)
    (either_way (n == 3) publish _ bytes rest e G (λ at read. shown 3 (publish_found bytes rest e small read) at)
    (either_way (n == 4) enroll (built n) bytes rest e G (λ at read. shown 4 (enroll_found bytes rest e small read) at)
    (λ read. built_found n bytes rest e small read))))
    is

-- an entry is read from its bytes
entry_again : (e : JournalEntry) (rest : List ℕ) → EntryFits e → entry (entry_bytes e ++ rest) ≡ Some (e, rest)
unfolding entry
entry_again e rest fits = step_again one_byte (λ b. Unit {0}) byte byte_law fields (kind_of e) (entry_fields e) rest tt ∙ fields_again e rest fits

-- and an entry that was read has these bytes
entry_found : (bytes rest : List ℕ) (e : JournalEntry) → Bytes bytes → entry bytes ≡ Some (e, rest) → EntryFits e × (entry_bytes e ++ rest ≡ bytes)
unfolding entry
entry_found bytes rest e small is =
    let a = step_found one_byte (λ b. Unit {0}) byte byte_law fields bytes rest e small is in
    let b = fields_found a.x a.middle rest e a.small a.then in
    (b.1, ap (λ (n : ℕ). n ∷ (entry_fields e ++ rest)) b.0 ∙ ap (λ (l : List ℕ). a.x ∷ l) b.2 ∙ a.spelled)

entry_law : IsLawful entry_bytes EntryFits entry
entry_law = record { again = entry_again; found = entry_found }

abbrev whole_of : List ℕ → Option (JournalEntry × List ℕ)
whole_of = entry >>= ended

ended_so : (x : JournalEntry) (middle rest : List ℕ) (e : JournalEntry) (bytes : List ℕ) → EntryFits x → entry_bytes x ++ middle ≡ bytes → ended x middle ≡ Some (e, rest) → Spells bytes e
ended_so x [] rest e bytes fits spelled is =
    carried (λ d l. Spells bytes d) x e [] rest is record { value = fits.0; stands = fits.1; spelled = sym (append-nil (entry_bytes x)) ∙ spelled }
ended_so x (b ∷ middle) rest e bytes fits spelled is = absurd (none_some (e, rest) is)

-- bytes from which all was read spell what was read
spells : (bytes rest : List ℕ) (e : JournalEntry) → Bytes bytes → whole bytes ≡ Some (e, rest) → Spells bytes e
unfolding whole
spells bytes rest e small is =
    let a = step_found entry_bytes EntryFits entry entry_law ended bytes rest e small is in
    ended_so a.x a.middle rest e bytes a.fits a.spelled a.then

-- no two entries have the same bytes, and each is read from its own
pub read_so : (bytes : List ℕ) (e : JournalEntry) → Spells bytes e → whole bytes ≡ Some (e, [])
unfolding whole
read_so bytes e is =
    ap whole_of (sym is.spelled ∙ sym (append-nil (entry_bytes e))) ∙ last_again entry_bytes EntryFits entry entry_law ended e [] (is.value, is.stands)

pub one_entry : (bytes : List ℕ) (d e : JournalEntry) → Spells bytes d → Spells bytes e → d ≡ e
one_entry bytes d e is-d is-e =
    let same : ◌≡◌ {A = Option (JournalEntry × List ℕ)} (Some (d, [])) (Some (e, [])) = sym (read_so bytes d is-d) ∙ read_so bytes e is-e in
    carried (λ x l. d ≡ x) d e [] [] same refl

-- what reading answers, by the entries that have these bytes
pub found_so : (r : Result JournalEntry EntryFault) (bytes rest : List ℕ) → Bytes bytes → Gives r rest (whole bytes) → IfOk r (Spells bytes)
found_so (Ok e) bytes rest small gives = spells bytes rest e small gives
found_so (Err e) bytes rest small gives = tt

pub exact_so : (r : Result JournalEntry EntryFault) (bytes rest : List ℕ) (e : JournalEntry) → Gives r rest (whole bytes) → Spells bytes e → IsThis e r
exact_so (Ok d) bytes rest e gives is =
    let same : ◌≡◌ {A = Option (JournalEntry × List ℕ)} (Some (d, rest)) (Some (e, [])) = sym gives ∙ read_so bytes e is in
    carried (λ x l. d ≡ x) d e rest [] same refl
exact_so (Err BadEntry) bytes rest e gives is = none_some (e, []) (sym gives ∙ read_so bytes e is)
exact_so (Err NoMemory) bytes rest e gives is = tt
