use Rattle.std.proofs.Common.{inl, inr, ◌∙◌, rules, sym}
use Rattle.clap.specs.Words.{app_of, found_of}
use Rattle.csv_command.proofs.ProgramLemmas.{csvtable_is_free, csvtable_is_simple, not_taken}
use Rattle.csv_command.proofs.arguments.parse_by.Goals as goal

pub returns-in-Err-clause-refused : goal.returns-in-Err-clause-refused
returns-in-Err-clause-refused c other =
    let kind = c.with_clearer_message.ensures other in
    let kinds = c.in-Err.ensures.kinds (csvtable_is_free _ c.requires) in
    rw kind (inl (not_taken (app_of c.args.command.now) _ c.in-Err.error c.requires c.in-Err.ensures.passes kinds (λ none. other (kind ∙ none))))

pub returns-clause-refused : goal.returns-clause-refused
returns-clause-refused c no_memory =
    inr (
      record {
        found = found_of c.in-Ok.matches;
        are_found = record { app = app_of c.args.command.now; is_csvtable = c.requires; is_found = (c.in-Ok.ensures.ok.2 (csvtable_is_simple _ c.requires)).0 };
        in_vain = sym c.wanted_delimiter.ensures ∙ c.in-None.is;
      },
      c.without_delimiter.ensures no_memory,
    )

pub returns-in-Some-clause-ok : goal.returns-in-Some-clause-ok
returns-in-Some-clause-ok c =
    record {
      found = found_of c.in-Ok.matches;
      are_found = record { app = app_of c.args.command.now; is_csvtable = c.requires; is_found = (c.in-Ok.ensures.ok.2 (csvtable_is_simple _ c.requires)).0 };
      options = c.in_ok-invocation_of-in-Some.ensures.options;
      file = c.in_ok-invocation_of-in-Some.ensures.file;
    }

pub returns-in_err-invocation_of-in-Some-clause-refused : goal.returns-in_err-invocation_of-in-Some-clause-refused
returns-in_err-invocation_of-in-Some-clause-refused c = search rules
