-- The reader's structs: the entry that they stand for, and what they tell of the rest of a log. Assumes nothing.
use Rattle.std.specs.Prelude.{ℕ, ◌<◌, ◌≤◌, ◌≡◌, List, length, drop, Some, None}
use Rattle.std.specs.declared.option as code
use Rattle.std.proofs.Math.Option.{Option, none, some}
use Rattle.rules.specs.Answer.{AnswerBy, refused, given}
use Rattle.rules.specs.Machine.{call_of}
use Rattle.call_log.specs.declared.LogEntry.{LogEntry}
use Rattle.call_log.specs.declared.LogEntry.TheVariants as entry
use Rattle.call_log.specs.declared.Next.{Next}
use Rattle.call_log.specs.Log.{Entry, call, bar, Form, counted, in_front, spelled_from}

-- the entry that is read
abbrev pub entry_of : LogEntry → Entry
entry_of (entry.Call k) = call (call_of k)
entry_of (entry.Bar high low) = bar high low

-- the place of the first bad entry, where there is one
unfoldable pub bad_at : AnswerBy ℕ (List Entry) → Option ℕ
bad_at (refused p) = some p
bad_at (given es) = none

-- how many bytes stand behind a letter, if it is one; whether they are there; and the entry that they spell
unfoldable pub width_by : Option Form → Option ℕ
width_by none = none
width_by (some f) = some f.width

unfoldable pub Long : Option Form → List ℕ → Type 0
Long none fields = ⊥
Long (some f) fields = f.width ≤ length fields

unfoldable pub entry_by : Option Form → List ℕ → Option Entry
entry_by none fields = none
entry_by (some f) fields = some (f.entry fields)

-- the entries from a place on, where a letter stands or the log ends, behind so many bars
abbrev pub rest_of : List ℕ → ℕ → ℕ → AnswerBy ℕ (List Entry)
rest_of log at bars = spelled_from at bars 0 (drop at log)

-- the entry e at a place, the place behind it, and the bars up to there
pub record EntryAt (log : List ℕ) (at bars : ℕ) (e : Entry) (next after : ℕ) : Type 0 where
  pub further : at < next
  pub within : next ≤ length log
  pub early : next ≤ 65536
  pub count : after ≡ counted bars e
  pub few : after ≤ 2048
  pub rest : rest_of log at bars ≡ in_front e (rest_of log next after)

-- what the entry at a place tells; where there is none, it is bad
abbrev pub Told : List ℕ → ℕ → ℕ → code.Option.Option Next → Type 0
Told log at bars None = rest_of log at bars ≡ refused at
Told log at bars (Some n) = EntryAt log at bars (entry_of n.entry) n.next n.bars
