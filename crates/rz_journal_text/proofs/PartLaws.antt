-- Each part is spelled in one way.
use Rattle.std.proofs.Common.{◌≡◌, ℕ, ◌==◌, true, List, ◌++◌, Option, Some, refl, sym, ◌∙◌, subst}
use Rattle.std.proofs.lemmas.Bool.{eqb-true}
use Rattle.byteorder.specs.Endian.{little_bytes}
use Rattle.rz_events.specs.declared.keys.Key.{Key}
use Rattle.rz_events.specs.declared.files.Kind.{Kind}
use Rattle.rz_events.specs.declared.files.Published.{Published}
use Rattle.rz_export_model.specs.Paths.{Path}
use Rattle.rz_tree.specs.declared.parts.Part.{Part}
use Rattle.rz_tree.specs.declared.parts.Part.TheVariants.{Counters, Object, Name, Block, Enrolled}
use Rattle.rz_journal_text.specs.Spelling.{text_bytes, key_bytes, path_bytes, places_bytes, maybe_published_bytes, part_kind, part_fields, PartMayStand, IsShort, IsSpelled, IsWide, IsKey, ArePlaces, IsPublished, IsPart}
use Rattle.rz_journal_text.specs.Fronts.{Front, ◌>>=◌, done, nothing, number, text, path, key, kind, places, maybe_published, counters, object, name, block, enrolled, part_of_kind}
use Rattle.rz_journal_text.proofs.Steps.{Bytes, none_some, step_again, last_again, step_found, joined, carried, either_way}
use Rattle.rz_journal_text.proofs.FieldLaws.{number_law, text_law, path_law, key_law, kind_byte, kind_law, places_law, maybe_law}

abbrev pub PartFits : Part → Type 0
PartFits part = IsPart part × PartMayStand part

-- a part is what its kind and its fields say
abbrev pub PartFound : ℕ → List ℕ → Part → List ℕ → Type 0
PartFound n bytes part rest = (part_kind part ≡ n) × PartFits part × (part_fields part ++ rest ≡ bytes)

-- ---- counters

abbrev made_from : ℕ → Front Part
made_from last = number 16 >>= (λ made. done (Counters last made))

counters_again : (last made : ℕ) (rest : List ℕ) → IsWide 8 last → IsWide 16 made → counters ((little_bytes 8 last ++ little_bytes 16 made) ++ rest) ≡ Some (Counters last made, rest)
unfolding counters
counters_again last made rest wide-last wide-made =
    step_again (little_bytes 8) (IsWide 8) (number 8) (number_law 8) made_from last (little_bytes 16 made) rest wide-last
    ∙ last_again (little_bytes 16) (IsWide 16) (number 16) (number_law 16) (λ made. done (Counters last made)) made rest wide-made

counters_found : (bytes rest : List ℕ) (part : Part) → Bytes bytes → counters bytes ≡ Some (part, rest) → PartFound 5 bytes part rest
unfolding counters
counters_found bytes rest part small is =
    let a = step_found (little_bytes 8) (IsWide 8) (number 8) (number_law 8) made_from bytes rest part small is in
    let b = step_found (little_bytes 16) (IsWide 16) (number 16) (number_law 16) (λ made. done (Counters a.x made)) a.middle rest part a.small a.then in
    carried (PartFound 5 bytes) (Counters a.x b.x) part b.middle rest b.then
    (refl {a = 5}, ((a.fits, b.fits), tt), joined (little_bytes 8 a.x) (little_bytes 16 b.x) a.middle b.middle bytes b.spelled a.spelled)

-- ---- objects: what is read after each field

abbrev target_from : ℕ → Kind → ℕ → ℕ → ℕ → ℕ → List ℕ → Front Part
target_from fid k mode mtime size cid ns = text >>= (λ target. done (Object fid k mode mtime size cid ns target))

abbrev places_from : ℕ → Kind → ℕ → ℕ → ℕ → ℕ → Front Part
places_from fid k mode mtime size cid = places >>= target_from fid k mode mtime size cid

abbrev cid_from : ℕ → Kind → ℕ → ℕ → ℕ → Front Part
cid_from fid k mode mtime size = number 2 >>= places_from fid k mode mtime size

abbrev size_from : ℕ → Kind → ℕ → ℕ → Front Part
size_from fid k mode mtime = number 8 >>= cid_from fid k mode mtime

abbrev mtime_from : ℕ → Kind → ℕ → Front Part
mtime_from fid k mode = number 8 >>= size_from fid k mode

abbrev mode_from : ℕ → Kind → Front Part
mode_from fid k = number 2 >>= mtime_from fid k

abbrev kind_from : ℕ → Front Part
kind_from fid = kind >>= mode_from fid

-- and what is spelled behind each field
abbrev after_cid : List ℕ → List ℕ → List ℕ
after_cid ns target = places_bytes ns ++ text_bytes target

abbrev after_size : ℕ → List ℕ → List ℕ → List ℕ
after_size cid ns target = little_bytes 2 cid ++ after_cid ns target

abbrev after_mtime : ℕ → ℕ → List ℕ → List ℕ → List ℕ
after_mtime size cid ns target = little_bytes 8 size ++ after_size cid ns target

abbrev after_mode : ℕ → ℕ → ℕ → List ℕ → List ℕ → List ℕ
after_mode mtime size cid ns target = little_bytes 8 mtime ++ after_mtime size cid ns target

abbrev after_kind : ℕ → ℕ → ℕ → ℕ → List ℕ → List ℕ → List ℕ
after_kind mode mtime size cid ns target = little_bytes 2 mode ++ after_mode mtime size cid ns target

abbrev after_fid : Kind → ℕ → ℕ → ℕ → ℕ → List ℕ → List ℕ → List ℕ
after_fid k mode mtime size cid ns target = kind_byte k ++ after_kind mode mtime size cid ns target

object_again : (fid : ℕ) (k : Kind) (mode mtime size cid : ℕ) (ns target rest : List ℕ)
    → PartFits (Object fid k mode mtime size cid ns target)
    → object (part_fields (Object fid k mode mtime size cid ns target) ++ rest) ≡ Some (Object fid k mode mtime size cid ns target, rest)
unfolding object
object_again fid k mode mtime size cid ns target rest fits =
    step_again (little_bytes 16) (IsWide 16) (number 16) (number_law 16) kind_from fid (after_fid k mode mtime size cid ns target) rest fits.0.0
    ∙ step_again kind_byte (λ k. Unit {0}) kind kind_law (mode_from fid) k (after_kind mode mtime size cid ns target) rest tt
    ∙ step_again (little_bytes 2) (IsWide 2) (number 2) (number_law 2) (mtime_from fid k) mode (after_mode mtime size cid ns target) rest fits.0.1
    ∙ step_again (little_bytes 8) (IsWide 8) (number 8) (number_law 8) (size_from fid k mode) mtime (after_mtime size cid ns target) rest fits.0.2
    ∙ step_again (little_bytes 8) (IsWide 8) (number 8) (number_law 8) (cid_from fid k mode mtime) size (after_size cid ns target) rest fits.0.3
    ∙ step_again (little_bytes 2) (IsWide 2) (number 2) (number_law 2) (places_from fid k mode mtime size) cid (after_cid ns target) rest fits.0.4
    ∙ step_again places_bytes ArePlaces places places_law (target_from fid k mode mtime size cid) ns (text_bytes target) rest fits.0.5
    ∙ last_again text_bytes IsShort text text_law (λ target. done (Object fid k mode mtime size cid ns target)) target rest fits.1

-- what an object holds, behind its times
record Content (fid : ℕ) (k : Kind) (mode mtime : ℕ) (bytes : List ℕ) (part : Part) (rest : List ℕ) : Type 0 where
  size : ℕ
  cid : ℕ
  ns : List ℕ
  target : List ℕ
  wide-size : IsWide 8 size
  wide-cid : IsWide 2 cid
  fit : ArePlaces ns
  short : IsShort target
  is : part ≡ Object fid k mode mtime size cid ns target
  spelled : after_mtime size cid ns target ++ rest ≡ bytes

content_found : (fid : ℕ) (k : Kind) (mode mtime : ℕ) (bytes rest : List ℕ) (part : Part) → Bytes bytes → size_from fid k mode mtime bytes ≡ Some (part, rest) → Content fid k mode mtime bytes part rest
content_found fid k mode mtime bytes rest part small is =
    let e = step_found (little_bytes 8) (IsWide 8) (number 8) (number_law 8) (cid_from fid k mode mtime) bytes rest part small is in
    let f = step_found (little_bytes 2) (IsWide 2) (number 2) (number_law 2) (places_from fid k mode mtime e.x) e.middle rest part e.small e.then in
    let g = step_found places_bytes ArePlaces places places_law (target_from fid k mode mtime e.x f.x) f.middle rest part f.small f.then in
    let h = step_found text_bytes IsShort text text_law (λ target. done (Object fid k mode mtime e.x f.x g.x target)) g.middle rest part g.small g.then in
    carried (Content fid k mode mtime bytes) (Object fid k mode mtime e.x f.x g.x h.x) part h.middle rest h.then
    record {
      size = e.x;
      cid = f.x;
      ns = g.x;
      target = h.x;
      wide-size = e.fits;
      wide-cid = f.fits;
      fit = g.fits;
      short = h.fits;
      is = refl {a = Object fid k mode mtime e.x f.x g.x h.x};
      spelled = content_spelled e.x f.x g.x h.x e.middle f.middle g.middle h.middle bytes h.spelled g.spelled f.spelled e.spelled;
    }
  where
    content_spelled : (size cid : ℕ) (ns target behind_size behind_cid behind_ns end bytes : List ℕ) → text_bytes target ++ end ≡ behind_ns → places_bytes ns ++ behind_ns ≡ behind_cid → little_bytes 2 cid ++ behind_cid ≡ behind_size → little_bytes 8 size ++ behind_size ≡ bytes → after_mtime size cid ns target ++ end ≡ bytes
    content_spelled size cid ns target behind_size behind_cid behind_ns end bytes at-target at-ns at-cid at-size =
        joined (little_bytes 8 size) (after_size cid ns target) behind_size end bytes
        (joined (little_bytes 2 cid) (after_cid ns target) behind_cid end behind_size (joined (places_bytes ns) (text_bytes target) behind_ns end behind_cid at-target at-ns) at-cid) at-size

object_spelled : (fid : ℕ) (k : Kind) (mode mtime : ℕ) (content behind_fid behind_kind behind_mode behind_mtime end bytes : List ℕ)
    → content ++ end ≡ behind_mtime → little_bytes 8 mtime ++ behind_mtime ≡ behind_mode → little_bytes 2 mode ++ behind_mode ≡ behind_kind → kind_byte k ++ behind_kind ≡ behind_fid → little_bytes 16 fid ++ behind_fid ≡ bytes
    → (little_bytes 16 fid ++ (kind_byte k ++ (little_bytes 2 mode ++ (little_bytes 8 mtime ++ content)))) ++ end ≡ bytes
object_spelled fid k mode mtime content behind_fid behind_kind behind_mode behind_mtime end bytes at-content at-mtime at-mode at-kind at-fid =
    joined (little_bytes 16 fid) (kind_byte k ++ (little_bytes 2 mode ++ (little_bytes 8 mtime ++ content))) behind_fid end bytes
    (joined (kind_byte k) (little_bytes 2 mode ++ (little_bytes 8 mtime ++ content)) behind_kind end behind_fid
    (joined (little_bytes 2 mode) (little_bytes 8 mtime ++ content) behind_mode end behind_kind (joined (little_bytes 8 mtime) content behind_mtime end behind_mode at-content at-mtime) at-mode) at-kind) at-fid

object_found : (bytes rest : List ℕ) (part : Part) → Bytes bytes → object bytes ≡ Some (part, rest) → PartFound 6 bytes part rest
unfolding object
object_found bytes rest part small is =
    let a = step_found (little_bytes 16) (IsWide 16) (number 16) (number_law 16) kind_from bytes rest part small is in
    let b = step_found kind_byte (λ k. Unit {0}) kind kind_law (mode_from a.x) a.middle rest part a.small a.then in
    let c = step_found (little_bytes 2) (IsWide 2) (number 2) (number_law 2) (mtime_from a.x b.x) b.middle rest part b.small b.then in
    let d = step_found (little_bytes 8) (IsWide 8) (number 8) (number_law 8) (size_from a.x b.x c.x) c.middle rest part c.small c.then in
    object_of a.x b.x c.x d.x a.middle b.middle c.middle d.middle bytes rest part a.fits c.fits d.fits d.spelled c.spelled b.spelled a.spelled (content_found a.x b.x c.x d.x d.middle rest part d.small d.then)
  where
    object_of : (fid : ℕ) (k : Kind) (mode mtime : ℕ) (behind_fid behind_kind behind_mode behind_mtime bytes rest : List ℕ) (part : Part) → IsWide 16 fid → IsWide 2 mode → IsWide 8 mtime
        → little_bytes 8 mtime ++ behind_mtime ≡ behind_mode → little_bytes 2 mode ++ behind_mode ≡ behind_kind → kind_byte k ++ behind_kind ≡ behind_fid → little_bytes 16 fid ++ behind_fid ≡ bytes
        → Content fid k mode mtime behind_mtime part rest → PartFound 6 bytes part rest
    object_of fid k mode mtime behind_fid behind_kind behind_mode behind_mtime bytes rest part wide-fid wide-mode wide-mtime at-mtime at-mode at-kind at-fid e =
        subst (λ (p : Part). PartFound 6 bytes p rest) (sym e.is)
        (refl {a = 6}, ((wide-fid, wide-mode, wide-mtime, e.wide-size, e.wide-cid, e.fit), e.short), object_spelled fid k mode mtime (after_mtime e.size e.cid e.ns e.target) behind_fid behind_kind behind_mode behind_mtime rest bytes e.spelled at-mtime at-mode at-kind at-fid)

-- ---- names

abbrev fid_from : Path → Front Part
fid_from p = number 16 >>= (λ fid. done (Name p fid))

name_again : (p : Path) (fid : ℕ) (rest : List ℕ) → IsSpelled p → IsWide 16 fid → name ((path_bytes p ++ little_bytes 16 fid) ++ rest) ≡ Some (Name p fid, rest)
unfolding name
name_again p fid rest spelled wide =
    step_again path_bytes IsSpelled path path_law fid_from p (little_bytes 16 fid) rest spelled
    ∙ last_again (little_bytes 16) (IsWide 16) (number 16) (number_law 16) (λ fid. done (Name p fid)) fid rest wide

name_found : (bytes rest : List ℕ) (part : Part) → Bytes bytes → name bytes ≡ Some (part, rest) → PartFound 7 bytes part rest
unfolding name
name_found bytes rest part small is =
    let a = step_found path_bytes IsSpelled path path_law fid_from bytes rest part small is in
    let b = step_found (little_bytes 16) (IsWide 16) (number 16) (number_law 16) (λ fid. done (Name a.x fid)) a.middle rest part a.small a.then in
    carried (PartFound 7 bytes) (Name a.x b.x) part b.middle rest b.then
    (refl {a = 7}, (b.fits, a.fits), joined (path_bytes a.x) (little_bytes 16 b.x) a.middle b.middle bytes b.spelled a.spelled)

-- ---- blocks

abbrev published_from : Key → ℕ → Front Part
published_from k latest = maybe_published >>= (λ o. done (Block k latest o))

abbrev latest_from : Key → Front Part
latest_from k = number 8 >>= published_from k

block_again : (k : Key) (latest : ℕ) (o : Option Published) (rest : List ℕ) → IsKey k → IsWide 8 latest → IsPublished o → block ((key_bytes k ++ (little_bytes 8 latest ++ maybe_published_bytes o)) ++ rest) ≡ Some (Block k latest o, rest)
unfolding block
block_again k latest o rest wide-k wide-latest wide-o =
    step_again key_bytes IsKey key key_law latest_from k (little_bytes 8 latest ++ maybe_published_bytes o) rest wide-k
    ∙ step_again (little_bytes 8) (IsWide 8) (number 8) (number_law 8) (published_from k) latest (maybe_published_bytes o) rest wide-latest
    ∙ last_again maybe_published_bytes IsPublished maybe_published maybe_law (λ o. done (Block k latest o)) o rest wide-o

block_found : (bytes rest : List ℕ) (part : Part) → Bytes bytes → block bytes ≡ Some (part, rest) → PartFound 8 bytes part rest
unfolding block
block_found bytes rest part small is =
    let a = step_found key_bytes IsKey key key_law latest_from bytes rest part small is in
    let b = step_found (little_bytes 8) (IsWide 8) (number 8) (number_law 8) (published_from a.x) a.middle rest part a.small a.then in
    let c = step_found maybe_published_bytes IsPublished maybe_published maybe_law (λ o. done (Block a.x b.x o)) b.middle rest part b.small b.then in
    carried (PartFound 8 bytes) (Block a.x b.x c.x) part c.middle rest c.then
    (refl {a = 8}, ((a.fits, b.fits, c.fits), tt), joined (key_bytes a.x) (little_bytes 8 b.x ++ maybe_published_bytes c.x) a.middle c.middle bytes (joined (little_bytes 8 b.x) (maybe_published_bytes c.x) b.middle c.middle a.middle c.spelled b.spelled) a.spelled)

-- ---- enrolments

abbrev fence_from : ℕ → ℕ → Front Part
fence_from node loss = number 8 >>= (λ fence. done (Enrolled node loss fence))

abbrev loss_from : ℕ → Front Part
loss_from node = number 8 >>= fence_from node

enrolled_again : (node loss fence : ℕ) (rest : List ℕ) → IsWide 2 node → IsWide 8 loss → IsWide 8 fence → enrolled ((little_bytes 2 node ++ (little_bytes 8 loss ++ little_bytes 8 fence)) ++ rest) ≡ Some (Enrolled node loss fence, rest)
unfolding enrolled
enrolled_again node loss fence rest wide-node wide-loss wide-fence =
    step_again (little_bytes 2) (IsWide 2) (number 2) (number_law 2) loss_from node (little_bytes 8 loss ++ little_bytes 8 fence) rest wide-node
    ∙ step_again (little_bytes 8) (IsWide 8) (number 8) (number_law 8) (fence_from node) loss (little_bytes 8 fence) rest wide-loss
    ∙ last_again (little_bytes 8) (IsWide 8) (number 8) (number_law 8) (λ fence. done (Enrolled node loss fence)) fence rest wide-fence

enrolled_found : (bytes rest : List ℕ) (part : Part) → Bytes bytes → enrolled bytes ≡ Some (part, rest) → PartFound 9 bytes part rest
unfolding enrolled
enrolled_found bytes rest part small is =
    let a = step_found (little_bytes 2) (IsWide 2) (number 2) (number_law 2) loss_from bytes rest part small is in
    let b = step_found (little_bytes 8) (IsWide 8) (number 8) (number_law 8) (fence_from a.x) a.middle rest part a.small a.then in
    let c = step_found (little_bytes 8) (IsWide 8) (number 8) (number_law 8) (λ fence. done (Enrolled a.x b.x fence)) b.middle rest part b.small b.then in
    carried (PartFound 9 bytes) (Enrolled a.x b.x c.x) part c.middle rest c.then
    (refl {a = 9}, ((a.fits, b.fits, c.fits), tt), joined (little_bytes 2 a.x) (little_bytes 8 b.x ++ little_bytes 8 c.x) a.middle c.middle bytes (joined (little_bytes 8 b.x) (little_bytes 8 c.x) b.middle c.middle a.middle c.spelled b.spelled) a.spelled)

-- ---- all parts

pub part_again : (part : Part) (rest : List ℕ) → PartFits part → part_of_kind (part_kind part) (part_fields part ++ rest) ≡ Some (part, rest)
unfolding part_of_kind
part_again (Counters last made) rest fits = counters_again last made rest fits.0.0 fits.0.1
part_again (Object fid k mode mtime size cid ns target) rest fits = object_again fid k mode mtime size cid ns target rest fits
part_again (Name p fid) rest fits = name_again p fid rest fits.1 fits.0
part_again (Block k latest o) rest fits = block_again k latest o rest fits.0.0 fits.0.1 fits.0.2
part_again (Enrolled node loss fence) rest fits = enrolled_again node loss fence rest fits.0.0 fits.0.1 fits.0.2

pub part_found : (n : ℕ) (bytes rest : List ℕ) (part : Part) → Bytes bytes → part_of_kind n bytes ≡ Some (part, rest) → PartFound n bytes part rest
unfolding part_of_kind
part_found n bytes rest part small is =
    let G : Type 0 = PartFound n bytes part rest in
    let shown : (m : ℕ) → PartFound m bytes part rest → (n == m) ≡ true → G = λ m holds at. subst (λ (k : ℕ). PartFound k bytes part rest) (sym (eqb-true n m at)) holds in
    either_way (n == 5) counters _ bytes rest part G (λ at read. shown 5 (counters_found bytes rest part small read) at)
    (either_way (n == 6) object _ bytes rest part G (λ at read. shown 6 (object_found bytes rest part small read) at)
    (either_way (n == 7) name _ bytes rest part G (λ at read. shown 7 (name_found bytes rest part small read) at)
    (either_way (n == 8) block _ bytes rest part G (λ at read. shown 8 (block_found bytes rest part small read) at)
    (either_way (n == 9) enrolled nothing bytes rest part G (λ at read. shown 9 (enrolled_found bytes rest part small read) at)
    (λ none. absurd (none_some (part, rest) none))))))
    is
