mod TextsOfSets
