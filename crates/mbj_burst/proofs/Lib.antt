mod BurstLines
