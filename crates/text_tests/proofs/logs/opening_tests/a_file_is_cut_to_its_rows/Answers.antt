use Rattle.text_tests.proofs.logs.opening_tests.a_file_is_cut_to_its_rows.Goals as goal

pub cut_log-requires : goal.cut_log-requires
cut_log-requires g c = (c.in-Ok.ensures.opens.book, c.in-Ok.ensures.opens.opens)
