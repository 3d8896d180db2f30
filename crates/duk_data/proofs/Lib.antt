mod JoinedHalves
