-- Options that the arguments on the command line give.
-- Source: this library's own; POSIX for COLUMNS, no-color.org for NO_COLOR.
use Rattle.std.specs.Prelude.{◌≡◌, ◌≢◌, ◌⊎◌, ◌-◌, ℕ, Bool, true, false, not, ◌==◌, ◌&&◌, ◌||◌, nat_le, nat_lt, List, [], ◌∷◌, Option, Some, None, bytes_eq, codes, drop, length, map, option_and_then, option_map, string_bytes, unwrap_or, if◌then◌else◌}
use Rattle.std.specs.List.{list_any, slice_split}
use Rattle.std.specs.Option.{option_map_or}
use Rattle.std.specs.Str.{str_eq_ignore_ascii_case}
use Rattle.std.specs.Str.Parse.{without_leading_plus}
use Rattle.clap.specs.Words.{App, IsAmong, fault_of, first_value, kind_of, matches_of, one_text, rows_of, takes}
use Rattle.clap.specs.Walk.{Row}
use Rattle.clap.specs.declared.error.Error.{Error}
use Rattle.clap.specs.declared.error.kind.ErrorKind.{ErrorKind}
use Rattle.clap.specs.declared.error.kind.ErrorKind.TheVariants.{InvalidValue, OutOfMemory}
use Rattle.clap.specs.declared.parser.matches.Found.{Found}
use Rattle.comfy_parts.specs.Text.{Text}
use Rattle.csv_records.specs.Delimiter.{only_ascii}
use Rattle.csv_records.specs.Numerals.{number_for}
use Rattle.csv_command.specs.Program.{IsCsvtable}
use Rattle.csv_command.specs.Styles.{is_compact, is_named, style_for}
use Rattle.csv_command.specs.declared.arguments.Invocation.{Invocation}
use Rattle.csv_command.specs.declared.arguments.OutputContext.{OutputContext}
use Rattle.csv_records.specs.declared.delimiter.Delimiter.{Delimiter}
use Rattle.csv_records.specs.declared.delimiter.Delimiter.TheVariants.{Auto as AutoDelimiter, NamedOrTab, Byte, Spaces}
use Rattle.csv_records.specs.declared.encoding.Encoding.{Encoding}
use Rattle.csv_records.specs.declared.encoding.Encoding.TheVariants.{Cp1252, Utf16, Utf8}
use Rattle.csv_tables.specs.declared.options.Expansion.{Expansion}
use Rattle.csv_tables.specs.declared.options.Expansion.TheVariants.{Always, Auto, Never as NeverExpanded}
use Rattle.csv_tables.specs.declared.options.Look.{Look}
use Rattle.csv_records.specs.declared.options.InputOptions.{InputOptions}
use Rattle.csv_command.specs.declared.arguments.Options.{Options}
use Rattle.csv_command.specs.declared.columns.ColumnWords.{ColumnWords}
use Rattle.csv_tables.specs.declared.selection.Noun.TheVariants.{Record}
use Rattle.csv_tables.specs.declared.selection.Selection.{Selection}
use Rattle.csv_tables.specs.declared.options.RowSeparators.{RowSeparators}
use Rattle.csv_tables.specs.declared.options.RowSeparators.TheVariants.{Styled, Needed, Never}

-- true if a path ends with `end`, in letters of either case
abbrev pub has_end : Text → Text → Bool
has_end end path = str_eq_ignore_ascii_case (drop (length path - length end) path) end

-- the delimiter if no argument sets it. For a file `.tsv` or `.tab` it is TAB, unless the first
-- line names another delimiter. For any other input it is found in the input.
abbrev pub delimiter_by : Option Text → Delimiter
delimiter_by None = AutoDelimiter
delimiter_by (Some path) =
    if has_end (codes ".tsv") path || has_end (codes ".tab") path then NamedOrTab else AutoDelimiter

-- the delimiter for an argument: TAB for `tab` and `\t`, spaces for `spaces`, and otherwise the
-- argument's only character
abbrev pub delimiter_for : Option Text → Option Text → Option Delimiter
delimiter_for None file = Some (delimiter_by file)
delimiter_for (Some word) file =
    if is_named (codes "auto") word then Some (delimiter_by file)
    else if is_named (codes "tab") word || is_named (0x5C ∷ codes "t") word then Some (Byte 0x09)
    else if is_named (codes "spaces") word then Some Spaces
    else option_map Byte (only_ascii word)

-- true for a name of UTF-16; a byte-order mark sets the order of bytes, which is otherwise
-- little-endian
abbrev pub is_utf16 : Text → Bool
is_utf16 name =
    is_named (codes "utf-16") name
    || (is_named (codes "utf16") name || is_named (codes "utf-16le") name)

-- the encoding of a name: each other name, also `latin1`, is one of Windows-1252
abbrev pub encoding_for : Option Text → Option Encoding
encoding_for None = None
encoding_for (Some name) =
    if is_named (codes "utf-8") name || is_named (codes "utf8") name
    then Some Utf8
    else if is_utf16 name
    then Some Utf16
    else Some Cp1252

-- a width, or `None` for 0
abbrev pub some_width : ℕ → Option ℕ
some_width width = if width == 0 then None else Some width

-- a number of terminal columns from 1 to 65535
abbrev pub some_columns : ℕ → Option ℕ
some_columns columns = if nat_lt 0 columns && nat_le columns 65535 then Some columns else None

-- the width of a terminal: that of `COLUMNS` if it is such a number, or else 80
abbrev pub terminal_width : Option Text → ℕ
terminal_width None = 80
terminal_width (Some columns) = unwrap_or (option_and_then some_columns (number_for 64 columns)) 80

-- the width of the table: the width that an option sets, or else the terminal's; 0 means no width
abbrev pub width_for : Option ℕ → OutputContext → Option ℕ
width_for (Some width) context = some_width width
width_for None context =
    if context.is_terminal
    then Some (terminal_width (option_map (λ c. c.now) context.columns))
    else None

-- true if colours are wanted: `NO_COLOR` is missing or empty
abbrev pub wants_color : Option Text → Bool
wants_color None = true
wants_color (Some text) = length text == 0

-- true if the header is in bold when no option says so: in a terminal, if colours are wanted
abbrev pub is_bold_there : OutputContext → Bool
is_bold_there context =
    context.is_terminal && wants_color (option_map (λ c. c.now) context.no_color)

-- true if the header is in bold: always, never, or depending on the destination
abbrev pub is_bold_for : Option Text → OutputContext → Bool
is_bold_for None context = is_bold_there context
is_bold_for (Some word) context =
    if bytes_eq word (codes "always") then true
    else if bytes_eq word (codes "never") then false
    else is_bold_there context

-- the number that was found for an option; a plus may precede it
abbrev pub number_found : ℕ → Found → Text → Option ℕ
number_found bits found id =
    option_and_then (λ word. number_for bits (without_leading_plus word)) (one_text found id)

-- true if an option is given: a value was found for it, other than the one of a flag that isn't set
abbrev pub is_given : Found → Text → Bool
is_given found id =
    option_map_or (λ value. not (bytes_eq value (codes "false"))) (first_value found id) false

-- the options that were found, in the order of their last uses
abbrev pub ids_in : Found → List Text
ids_in found = map (λ (row : Row). row.id) (rows_of found)

-- true if `other` follows `id` in a list
abbrev pub is_followed_by : Text → Text → List Text → Bool
is_followed_by id other [] = false
is_followed_by id other (it ∷ rest) =
    if bytes_eq it id
    then list_any (λ one. bytes_eq one other) rest
    else is_followed_by id other rest

-- true if the first option is given, and the second one isn't given after it
abbrev pub is_given_last : Found → Text → Text → Bool
is_given_last found id other =
    is_given found id && not (is_given found other && is_followed_by id other (ids_in found))

-- the delimiter that the options set
abbrev pub wanted_delimiter : Found → Option Delimiter
wanted_delimiter found =
    if is_given_last found (codes "tabs") (codes "delimiter")
    then Some (Byte 0x09)
    else delimiter_for (first_value found (codes "delimiter")) (first_value found (codes "file"))

-- true if a table for Markdown is requested, by its own option or as a style
abbrev pub is_markdown_in : Found → Bool
is_markdown_in found =
    is_given_last found (codes "markdown") (codes "style")
    || option_map_or (is_named (codes "markdown")) (first_value found (codes "style")) false

-- the rule for lines between rows: by the options `--rows` and `--no-rows`, or else by the style
abbrev pub separators_for : Bool → Bool → Option Text → RowSeparators
separators_for has_rows has_none style =
    if has_rows
    then Styled
    else if has_none
    then Never
    else if is_compact style
    then Needed
    else Styled

-- the rule for drawing a record as a table of its own: always, or as `--expanded` requests, or else
-- only if columns would be too narrow
abbrev pub expansion_for : Bool → Option Text → Expansion
expansion_for true word = Always
expansion_for false None = Auto
expansion_for false (Some word) =
    if bytes_eq word (codes "always")
    then Always
    else if bytes_eq word (codes "never")
    then NeverExpanded
    else Auto

-- the file to read, or `None` without an argument and for a hyphen
abbrev pub file_for : Option Text → Option Text
file_for None = None
file_for (Some word) = if bytes_eq word (codes "-") then None else Some word

-- the words of a list, which are separated by commas; no words without a list
abbrev pub words_in : Option Text → List Text
words_in None = []
words_in (Some list) = slice_split (λ b. b == 0x2C) list

-- the look follows from the values that were found for options, and from the destination of the
-- output
pub record IsLookParsed (context : OutputContext) (found : Found) (look : Look) : Type 0 where
  pub style : look.style ≡ style_for (first_value found (codes "style"))
  pub separators :
      look.separators ≡ separators_for (is_given_last found (codes "rows") (codes "no-rows"))
      (is_given found (codes "no-rows")) (first_value found (codes "style"))
  pub expansion :
      look.expansion ≡ expansion_for
      (is_given_last found (codes "all-expanded") (codes "expanded"))
      (first_value found (codes "expanded"))
  pub width : look.width ≡ width_for (number_found 16 found (codes "width")) context
  pub full : look.fills_width ≡ is_given found (codes "full")
  pub height : look.max_height ≡ number_found 64 found (codes "max-height")
  pub bold : look.has_bold_header ≡ is_bold_for (first_value found (codes "color")) context
  pub decimals : look.aligns_decimals ≡ not (is_given found (codes "no-decimal"))
  pub sequences : look.has_sequences ≡ is_given found (codes "ansi")
  pub markdown : look.is_markdown ≡ is_markdown_in found

-- the options for reading the input follow from the values that were found for options
pub record IsInputParsed (found : Found) (input : InputOptions) : Type 0 where
  pub encoding : input.encoding ≡ encoding_for (first_value found (codes "encoding"))
  pub skip : input.skip ≡ unwrap_or (number_found 64 found (codes "skip")) 0
  pub delimiter : wanted_delimiter found ≡ Some input.delimiter
  pub header : input.has_header ≡ not (is_given found (codes "no-header"))
  pub quotes : input.has_quotes ≡ not (is_given found (codes "no-quotes"))

-- the selection of records follows from the values that were found for options
pub record IsSelectionParsed (found : Found) (selection : Selection) : Type 0 where
  pub header : selection.has_header ≡ not (is_given found (codes "no-header"))
  pub limit : selection.limit ≡ number_found 64 found (codes "limit")
  pub numbers : selection.is_numbered ≡ is_given found (codes "number")
  pub noun : selection.noun ≡ Record

-- the words for columns follow from the values that were found for options
pub record AreColumnsParsed (found : Found) (columns : ColumnWords) : Type 0 where
  pub chosen : map string_bytes columns.chosen.items
      ≡ words_in (first_value found (codes "columns"))
  pub dropped : map string_bytes columns.dropped.items ≡ words_in (first_value found (codes "drop"))
  pub right : map string_bytes columns.right.items ≡ words_in (first_value found (codes "right"))
  pub left : map string_bytes columns.left.items ≡ words_in (first_value found (codes "left"))

-- all options follow from the values that were found, and from the destination of the output
pub record AreOptionsParsed (context : OutputContext) (found : Found)
    (options : Options) : Type 0 where
  pub input : IsInputParsed found options.input
  pub counts : options.counts_all ≡ is_given found (codes "count")
  pub selection : IsSelectionParsed found options.selection
  pub columns : AreColumnsParsed found options.columns
  pub look : IsLookParsed context found options.look

-- `found` are the values that clap finds in the arguments with the program's command
pub record AreFound (arguments : List Text) (found : Found) : Type 0 where
  pub app : App
  pub is_csvtable : IsCsvtable app
  pub is_found : rows_of found ≡ matches_of app arguments

-- the invocation follows from the values that clap finds in the arguments
pub record IsParsed (arguments : List Text) (context : OutputContext)
    (invocation : Invocation) : Type 0 where
  pub found : Found
  pub are_found : AreFound arguments found
  pub options : AreOptionsParsed context found invocation.options
  pub file : option_map string_bytes invocation.file ≡ file_for (first_value found (codes "file"))

-- The program's command refuses the arguments. The kind is clap's for the first argument at which
-- it stops: help, the version, or a mistake.
pub record AreNotTaken (arguments : List Text) (kind : ErrorKind) : Type 0 where
  pub app : App
  pub is_csvtable : IsCsvtable app
  pub not_taken : takes app arguments ≡ false
  pub is_kind : IsAmong kind (fault_of app arguments)

-- the arguments give a word that can't be a delimiter
pub record AreFoundInVain (arguments : List Text) : Type 0 where
  pub found : Found
  pub are_found : AreFound arguments found
  pub in_vain : wanted_delimiter found ≡ None

-- the error for arguments: they are refused, or have a wrong delimiter, which counts as an invalid
-- value, or there is no memory
abbrev pub IsRefusedBy : List Text → Error → Type 0
IsRefusedBy arguments e =
    (kind_of e ≢ OutOfMemory)
    → AreNotTaken arguments (kind_of e) ⊎ AreFoundInVain arguments × (kind_of e ≡ InvalidValue)
