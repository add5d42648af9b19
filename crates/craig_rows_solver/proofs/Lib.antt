mod RefutedLemmas
