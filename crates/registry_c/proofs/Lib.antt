mod HandleTypes
