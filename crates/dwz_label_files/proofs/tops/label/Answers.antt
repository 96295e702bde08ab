use Rattle.dwz_label_files.proofs.tops.label.Goals as goal

pub put_top_of-requires-clause-there : goal.put_top_of-requires-clause-there
put_top_of-requires-clause-there c = c.spot_of-spot.ensures.spot.there
