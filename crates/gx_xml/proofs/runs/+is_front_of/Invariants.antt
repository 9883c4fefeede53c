use Rattle.gx_xml.proofs.runs.+is_front_of.Given as goal

abbrev pub decreases-is_front_of : goal.decreases-is_front_of
decreases-is_front_of l = l.count
