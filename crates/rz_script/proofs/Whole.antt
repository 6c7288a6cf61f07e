-- A script that is read keeps the limits of lines, and has fewer lines than bytes.
use Rattle.std.proofs.Common.{◌≡◌, ℕ, ◌+◌, ◌^◌, ◌<◌, ◌≤◌, ◌==◌, false, List, [], ◌∷◌, length, Option, Some, None, Result, Ok, Err, refl, ap, subst, arith}
use Rattle.std.specs.List.{AllByRecursion, cons_option}
use Rattle.std.specs.Str.{IsUtf8}
use Rattle.rz_events.specs.Volume.{Volume}
use Rattle.rz_config.specs.declared.fault.VolumeFault.{VolumeFault}
use Rattle.rz_config.specs.Described.{volume_of_text}
use Rattle.rz_config.specs.Plain.{plain_volume}
use Rattle.rz_script_words.specs.declared.fault.ScriptCause.{ScriptCause}
use Rattle.rz_script.specs.declared.fault.ScriptError.{ScriptError}
use Rattle.rz_script.specs.declared.line.Line.{Line}
use Rattle.rz_script_words.specs.declared.form.Form.{Form}
use Rattle.rz_script.specs.declared.reading.LineRole.{LineRole}
use Rattle.rz_script.specs.declared.reading.LineRole.TheVariants as heads
use Rattle.rz_script.specs.Scripts.{Script, no_lines}
use Rattle.rz_script.specs.Lines.{AreLines}
use Rattle.rz_script_words.specs.Grammar.{words, after_word}
use Rattle.rz_script.specs.Grammar.{lines, line, join, at_line, lines_from, with_lines, with_volume, described, given, head, by_head, headed}
use Rattle.rz_script.proofs.Cut_words.{words_are, lines_are}
use Rattle.rz_script.proofs.Bytes.{total, split_total}
use Rattle.rz_script.proofs.Found.{MayBeLine, line_ok}

-- a line is text without line feeds
abbrev IsText : List ℕ → Type 0
IsText t = AllByRecursion (λ b. (b == 10) ≡ false) t × IsUtf8 t

-- lines that keep the limits of a volume, of which there are no more than this
record Kept (v : Volume) (ls : List Line) (most : ℕ) : Type 0 where
  limits : AreLines v ls
  few : length ls ≤ most

at_ok : (n : ℕ) (r : Result (Option Line) ScriptCause) (o : Option Line) → at_line n r ≡ Ok o → r ≡ Ok o
at_ok n (Ok p) o e = let same : p ≡ o = cc in ap (λ (x : Option Line). Ok x) same
at_ok n (Err c) o e = absurd cc

join_ok : (a : Result (Option Line) ScriptError) (b : Result (List Line) ScriptError) (ls : List Line) → join a b ≡ Ok ls → (o : Option Line) × (others : List Line) × (a ≡ Ok o) × (b ≡ Ok others) × (cons_option o others ≡ ls)
join_ok (Err f) b ls e = absurd cc
join_ok (Ok o) (Err f) ls e = absurd cc
join_ok (Ok o) (Ok others) ls e = let same : cons_option o others ≡ ls = cc in (o, others, refl, refl, same)

added : (v : Volume) (o : Option Line) (others : List Line) → MayBeLine v o → AreLines v others → AreLines v (cons_option o others)
added v None others h k = k
added v (Some l) others h k = (h, k)

one_more : (o : Option Line) (others : List Line) → length (cons_option o others) ≤ 1 + length others
one_more None others = omega arith
one_more (Some l) others = omega arith

-- a text without bytes adds none
few_more : (form : Form) (v : Volume) (text : List ℕ) (o : Option Line) (others : List Line) → line form v (words text) ≡ Ok o → length (cons_option o others) ≤ length text + length others
unfolding line
few_more form v [] o others e = let same : None ≡ o = cc in subst (λ p. length (cons_option p others) ≤ 0 + length others) same (omega arith)
few_more form v (b ∷ bs) o others e = let more = one_more o others in omega (arith, more)

lines_kept : (form : Form) (v : Volume) (n : ℕ) (texts : List (List ℕ)) (ls : List Line) → AllByRecursion IsText texts → lines_from form v n texts ≡ Ok ls → Kept v ls (total texts)
unfolding lines_from
lines_kept form v n [] ls good e =
    let same : [] ≡ ls = cc in
    subst (λ ls. Kept v ls 0) same (record { limits = tt; few = omega arith })
lines_kept form v n (text ∷ texts) ls good e =
    let (o, others, first, rest, all) = join_ok (at_line n (line form v (words text))) (lines_from form v (n + 1) texts) ls e in
    let is : line form v (words text) ≡ Ok o = at_ok n (line form v (words text)) o first in
    let more = lines_kept form v (n + 1) texts others good.1 rest in
    let one : MayBeLine v o = line_ok v form (words text) o (words_are text good.0.1 good.0.0) is in
    let count = few_more form v text o others is in
    subst (λ ls. Kept v ls (total (text ∷ texts))) all (record { limits = added v o others one more.limits; few = omega (arith, count, more.few) })

abbrev Good : ℕ → Script → Type 0
Good most s = Kept s.volume s.lines most

with_ok : (form : Form) (v : Volume) (n : ℕ) (texts : List (List ℕ)) (r : Result (List Line) ScriptError) (s : Script) → AllByRecursion IsText texts → lines_from form v n texts ≡ r → with_lines v r ≡ Ok s → Good (total texts) s
with_ok form v n texts (Ok ls) s good p e =
    let made : Script = record { volume = v; lines = ls } in
    let same : made ≡ s = cc in
    subst (Good (total texts)) same (lines_kept form v n texts ls good p)
with_ok form v n texts (Err f) s good p e = absurd cc

volume_ok : (form : Form) (r : Result Volume VolumeFault) (n : ℕ) (texts : List (List ℕ)) (s : Script) → AllByRecursion IsText texts → with_volume r (λ v. lines_from form v n texts) ≡ Ok s → Good (total texts) s
volume_ok form (Ok v) n texts s good e = with_ok form v n texts (lines_from form v n texts) s good refl e
volume_ok form (Err f) n texts s good e = absurd cc

described_ok : (form : Form) (m : ℕ) (json : List ℕ) (ws : List (List ℕ)) (n : ℕ) (texts : List (List ℕ)) (s : Script) → AllByRecursion IsText texts → described m json ws (λ v. lines_from form v n texts) ≡ Ok s → Good (total texts) s
described_ok form m json [] n texts s good e = absurd cc
described_ok form m json (w ∷ ws) n texts s good e = volume_ok form (volume_of_text json) n texts s good e

wider : (a b : ℕ) (s : Script) → a ≤ b → Good a s → Good b s
wider a b s le g = let few = g.few in record { limits = g.limits; few = omega (arith, few, le) }

by_kind : (form : Form) (n : ℕ) (text : List ℕ) (texts : List (List ℕ)) (s : Script) (h : LineRole) → AllByRecursion IsText (text ∷ texts) → (headed form (n + 1) texts ≡ Ok s → Good (total texts) s)
    → by_head h (headed form (n + 1) texts) (given n (after_word text) (λ v. lines_from form v (n + 1) texts)) (with_lines plain_volume (lines_from form plain_volume n (text ∷ texts))) ≡ Ok s → Good (total (text ∷ texts)) s
unfolding given
by_kind form n text texts s heads.Passed good later e = wider (total texts) (total (text ∷ texts)) s (omega arith) (later e)
by_kind form n text texts s heads.Volume good later e = wider (total texts) (total (text ∷ texts)) s (omega arith) (described_ok form n (after_word text) (words (after_word text)) (n + 1) texts s good.1 e)
by_kind form n text texts s heads.Other good later e = with_ok form plain_volume n (text ∷ texts) (lines_from form plain_volume n (text ∷ texts)) s good refl e

headed_kept : (form : Form) (n : ℕ) (texts : List (List ℕ)) (s : Script) → AllByRecursion IsText texts → headed form n texts ≡ Ok s → Good (total texts) s
unfolding headed
headed_kept form n [] s good e =
    let same : no_lines plain_volume ≡ s = cc in
    subst (Good 0) same (record { limits = tt; few = omega arith })
headed_kept form n (text ∷ texts) s good e = by_kind form n text texts s (head (words text)) good (λ f. headed_kept form (n + 1) texts s good.1 f) e

-- ---- what `read` needs to make a script

pub limits_kept : (form : Form) (text : List ℕ) (s : Script) → IsUtf8 text → headed form 1 (lines text) ≡ Ok s → AreLines s.volume s.lines
limits_kept form text s u e = (headed_kept form 1 (lines text) s (lines_are text u) e).limits

pub few_lines : (form : Form) (text : List ℕ) (s : Script) → IsUtf8 text → headed form 1 (lines text) ≡ Ok s → length text < 2 ^ 32 → length s.lines < 2 ^ 32
few_lines form text s u e small =
    let few = (headed_kept form 1 (lines text) s (lines_are text u) e).few in
    let pieces = split_total 10 text in
    omega (arith, few, pieces, small)
