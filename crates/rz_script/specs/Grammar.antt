-- The grammar of a script: what a line and a whole text mean under a form of reading, or their first fault.
use Rattle.std.specs.Prelude.{ℕ, ◌+◌, Bool, true, false, ◌==◌, if◌then◌else◌, List, [], ◌∷◌, codes, bytes_eq, slice_index, Option, Some, None, Result, Ok, Err}
use Rattle.std.specs.List.{slice_split, cons_option}
use Rattle.std.specs.Str.{is_utf8}
use Rattle.rz_events.specs.declared.keys.Actor.{Actor}
use Rattle.rz_events.specs.Volume.{Volume}
use Rattle.rz_config.specs.declared.fault.VolumeFault.{VolumeFault}
use Rattle.rz_config.specs.Described.{volume_of_text}
use Rattle.rz_config.specs.Plain.{plain_volume}
use Rattle.rz_events.specs.declared.operations.Operation.{Operation}
use Rattle.rz_script_words.specs.Words.{Word}
use Rattle.rz_script_words.specs.Grammar.{words, after_word, Judge, Reader, and_then, ◌>>=◌, done, number, number_in, actor, node, verb, operands}
use Rattle.rz_script_words.specs.declared.form.Form.{Form}
use Rattle.rz_script_words.specs.declared.form.Form.TheVariants as forms
use Rattle.rz_script_words.specs.declared.fault.ScriptCause.{ScriptCause}
use Rattle.rz_script_words.specs.declared.fault.ScriptCause.TheVariants.{NotUtf8, UnknownLine, MissingWord, LateVolume, NotForRun}
use Rattle.rz_script.specs.declared.line.Line.{Line}
use Rattle.rz_script.specs.declared.line.Line.TheVariants.{Op, Turn, Rounds, Rest, Stop, Start, Lose, Break, Miss}
use Rattle.rz_script.specs.declared.keywords.Keyword.{Keyword}
use Rattle.rz_script.specs.declared.keywords.Keyword.TheVariants as keys
use Rattle.rz_script.specs.declared.reading.LineRole.{LineRole}
use Rattle.rz_script.specs.declared.reading.LineRole.TheVariants as heads
use Rattle.rz_script.specs.declared.fault.ScriptError.{ScriptError}
use Rattle.rz_script.specs.declared.fault.ScriptError.TheVariants as errors
use Rattle.rz_script.specs.Scripts.{Script, no_lines}

-- the lines of a text: what stands between line feeds
abbrev pub lines : List ℕ → List (List ℕ)
lines text = slice_split (λ b. b == 10) text

-- what is lost of a message: the reply, or the request itself
unfoldable pub way : Judge Bool
way w =
    if bytes_eq w (codes "request") then Ok false
    else if bytes_eq w (codes "reply") then Ok true
    else Err UnknownLine

-- ---- lines

abbrev pub by_actor : Actor → Reader Operation → Reader Line
by_actor by reader ws = and_then (reader ws) (λ operation. Ok (Op by operation))

-- op ACTOR OPERATION
unfoldable pub op : Form → Volume → Reader Line
op form v = do
  by ← actor
  name ← verb form by
  by_actor by (operands v name)

-- turn ACTOR K
unfoldable pub turn : Reader Line
turn = do
  by ← actor
  k ← number_in 1 1000000
  done (Turn by k)

-- rounds K
unfoldable pub rounds : Reader Line
rounds = do
  k ← number_in 1 1000000
  done (Rounds k)

-- rest
unfoldable pub rest : Reader Line
rest = done Rest

-- stop NODE, start NODE and lose NODE
unfoldable pub on_node : Volume → (ℕ → Line) → Reader Line
on_node v act = do
  sid ← node v
  done (act sid)

-- break NODE K P
unfoldable pub break_node : Volume → Reader Line
break_node v = do
  sid ← node v
  k ← number_in 0 1000000
  pick ← number
  done (Break sid k pick)

-- miss ACTOR request and miss ACTOR reply
unfoldable pub miss : Reader Line
miss = do
  by ← actor
  reply ← way
  done (Miss by reply)

-- the line that a word begins
unfoldable pub keyword_named : Word → Option Keyword
keyword_named w =
    if bytes_eq w (codes "volume") then Some keys.Volume
    else if bytes_eq w (codes "op") then Some keys.Op
    else if bytes_eq w (codes "turn") then Some keys.Turn
    else if bytes_eq w (codes "rounds") then Some keys.Rounds
    else if bytes_eq w (codes "rest") then Some keys.Rest
    else if bytes_eq w (codes "stop") then Some keys.Stop
    else if bytes_eq w (codes "start") then Some keys.Start
    else if bytes_eq w (codes "lose") then Some keys.Lose
    else if bytes_eq w (codes "break") then Some keys.Break
    else if bytes_eq w (codes "miss") then Some keys.Miss
    else None

-- whether a line may stand after the volume's, by its first word: under `Migrate` none may, and under
-- `Run` none that speaks of turns or of lost messages
abbrev pub standing : Form → Keyword → Result Keyword ScriptCause
standing form keys.Volume = Err LateVolume
standing forms.Migrate k = Err UnknownLine
standing forms.Run keys.Turn = Err NotForRun
standing forms.Run keys.Rounds = Err NotForRun
standing forms.Run keys.Rest = Err NotForRun
standing forms.Run keys.Miss = Err NotForRun
standing form k = Ok k

abbrev pub standing_if : Form → Option Keyword → Result Keyword ScriptCause
standing_if form None = Err UnknownLine
standing_if form (Some k) = standing form k

unfoldable pub keyword : Form → Judge Keyword
keyword form w = standing_if form (keyword_named w)

-- the words after the first word of a line
unfoldable pub after_keyword : Form → Volume → Keyword → Reader Line
after_keyword form v keys.Volume = λ ws. Err LateVolume
after_keyword form v keys.Op = op form v
after_keyword form v keys.Turn = turn
after_keyword form v keys.Rounds = rounds
after_keyword form v keys.Rest = rest
after_keyword form v keys.Stop = on_node v Stop
after_keyword form v keys.Start = on_node v Start
after_keyword form v keys.Lose = on_node v Lose
after_keyword form v keys.Break = break_node v
after_keyword form v keys.Miss = miss

-- a line that counts, by its first word
unfoldable pub counted : Form → Volume → Word → Reader Line
counted form v w ws = and_then (keyword form w) (λ k. after_keyword form v k ws)

abbrev pub some : {A : Type 0} → Result A ScriptCause → Result (Option A) ScriptCause
some (Ok x) = Ok (Some x)
some (Err e) = Err e

-- a line: nothing where it is passed over, since it has no word or its first word begins with `#`
unfoldable pub line : Form → Volume → List Word → Result (Option Line) ScriptCause
line form v [] = Ok None
line form v (w ∷ ws) = if slice_index w 0 == 35 then Ok None else some (counted form v w ws)

-- ---- texts

abbrev pub join : Result (Option Line) ScriptError → Result (List Line) ScriptError → Result (List Line) ScriptError
join (Err e) others = Err e
join (Ok o) (Err e) = Err e
join (Ok o) (Ok ls) = Ok (cons_option o ls)

abbrev pub at_line : ℕ → Result (Option Line) ScriptCause → Result (Option Line) ScriptError
at_line n (Ok o) = Ok o
at_line n (Err cause) = Err (errors.Script n cause)

-- the lines from number n on, under a volume
unfoldable pub lines_from : Form → Volume → ℕ → List (List ℕ) → Result (List Line) ScriptError
lines_from form v n [] = Ok []
lines_from form v n (text ∷ texts) = join (at_line n (line form v (words text))) (lines_from form v (n + 1) texts)

abbrev pub with_lines : Volume → Result (List Line) ScriptError → Result Script ScriptError
with_lines v (Ok ls) = Ok (record { volume = v; lines = ls })
with_lines v (Err e) = Err e

abbrev pub with_volume : Result Volume VolumeFault → (Volume → Result (List Line) ScriptError) → Result Script ScriptError
with_volume (Ok v) others = with_lines v (others v)
with_volume (Err fault) others = Err (errors.Volume fault)

-- the volume that a `volume` line describes, and the lines after it
abbrev pub described : ℕ → List ℕ → List Word → (Volume → Result (List Line) ScriptError) → Result Script ScriptError
described n json [] others = Err (errors.Script n MissingWord)
described n json (w ∷ ws) others = with_volume (volume_of_text json) others

unfoldable pub given : ℕ → List ℕ → (Volume → Result (List Line) ScriptError) → Result Script ScriptError
given n json others = described n json (words json) others

-- whether a line is passed over, gives the volume, or is another
unfoldable pub head : List Word → LineRole
head [] = heads.Passed
head (w ∷ ws) =
    if slice_index w 0 == 35 then heads.Passed
    else if bytes_eq w (codes "volume") then heads.Volume
    else heads.Other

abbrev pub by_head : {A : Type 0} → LineRole → A → A → A → A
by_head heads.Passed passed volume other = passed
by_head heads.Volume passed volume other = volume
by_head heads.Other passed volume other = other

-- the lines from number n on, where a `volume` line may still come; without one the volume is the plain one
unfoldable pub headed : Form → ℕ → List (List ℕ) → Result Script ScriptError
headed form n [] = Ok (no_lines plain_volume)
headed form n (text ∷ texts) =
    by_head (head (words text))
    (headed form (n + 1) texts)
    (given n (after_word text) (λ v. lines_from form v (n + 1) texts))
    (with_lines plain_volume (lines_from form plain_volume n (text ∷ texts)))

-- the script that a text means, or its first fault
unfoldable pub script : Form → List ℕ → Result Script ScriptError
script form bytes = if is_utf8 bytes then headed form 1 (lines bytes) else Err (errors.Script 1 NotUtf8)
