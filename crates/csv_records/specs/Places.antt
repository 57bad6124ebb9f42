-- Private: the places of records in the list of all fields.
-- Source: this library's own.
use Rattle.std.specs.Prelude.{◌+◌, ◌-◌, ◌^◌, ◌<◌, ◌≤◌, ℕ, List, [], ◌∷◌, All, drop, length, take}
use Rattle.comfy_parts.specs.Text.{Text}
use Rattle.csv.specs.Records.{AllText}
use Rattle.csv_records.specs.declared.records.Place.{Place}

-- the fields of a record
abbrev pub fields_at : List Text → Place → List Text
fields_at fields place = take (place.end - place.start) (drop place.start fields)

-- a place is within the list of all fields, and its numbers fit a `usize`
abbrev pub IsWithin : List Text → Place → Type 0
IsWithin fields place =
    (place.start ≤ place.end) × (place.end ≤ length fields) × (place.end < 2 ^ 64)

-- a record has this place, and all fields are UTF-8
abbrev pub IsPlace : List Text → Place → Type 0
IsPlace fields place = IsWithin fields place × AllText fields

-- records have these places, and all fields are UTF-8
abbrev pub ArePlaces : List Text → List Place → Type 0
ArePlaces fields places = All (IsWithin fields) places × AllText fields

-- the places of consecutive records with these numbers of fields, from position `start` on
abbrev pub places_for : ℕ → List ℕ → List Place
places_for start [] = []
places_for start (n ∷ ns) =
    record { start = start; end = start + n } ∷ places_for (start + n) ns
