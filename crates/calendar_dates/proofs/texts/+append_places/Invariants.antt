use Rattle.calendar_dates.proofs.texts.+append_places.Given as goal

abbrev pub decreases-append_places : goal.decreases-append_places
decreases-append_places l = l.count
