-- What the readers' answers stand for: a place or the number of a refusal, and the state after one byte more.
use Rattle.std.specs.Prelude.{Bool, false, Option, Some, None, Result, Ok, Err}
use Rattle.codes.specs.Machine.{Next, go, stop}
use Rattle.codes.specs.Answer.{Read, value, refused}
use Rattle.codes.specs.Refusals.{number_of}
use Rattle.codes.specs.declared.refusal.Refusal.{Refusal}
use Rattle.read_text.specs.declared.Place as declared
use Rattle.read_text.specs.declared.Utf8.{Utf8}
use Rattle.read_text.specs.Text.{Place, place}

abbrev pub of_place : Result declared.Place Refusal → Read Place
of_place (Ok p) = value (place p.start p.len)
of_place (Err r) = refused (number_of r)

abbrev pub of_utf8_next : Option Utf8 → Next Utf8 Bool
of_utf8_next (Some s) = go s
of_utf8_next None = stop false
