use Rattle.promises.proofs.others.lines_of_both.Goals as goal

pub returns : goal.returns
returns c same =
    c.hidden_columns_change_nothing.ensures.same c.args.table.now c.args.other.now _ _ same c.in_ok-lines.ensures.drawing c.in_ok-others.ensures.drawing
