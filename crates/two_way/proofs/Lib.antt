mod TwoWays
